pub mod FairCopy
