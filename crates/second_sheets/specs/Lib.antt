pub mod CertificateAnswers
pub mod RunAnswers
