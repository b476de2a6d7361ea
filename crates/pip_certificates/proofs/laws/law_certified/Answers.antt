use Rattle.pip_certificates.proofs.CertificatesMerged.{certificates_say}
use Rattle.pip_certificates.proofs.laws.law_certified.Goals as goal

pub returns : goal.returns
returns c = certificates_say
