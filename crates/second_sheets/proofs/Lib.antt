pub mod CertificateLaws
pub mod RunLaws
pub mod StepLaws
