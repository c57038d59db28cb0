pub mod FairRows
