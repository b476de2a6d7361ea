-- What a certificate says of runs: their lines are shown by choices, and these were merged.
use Rattle.std.proofs.Common.{◌≡◌, Some, subst, sym, slice_get}
use Rattle.pip_certificates.proofs.CertificatesMerged.{certificates_say}
use Rattle.pip_certificates.specs.PartAbout.{words_with}
use Rattle.pip_command_contracts.proofs.Accepted.{accepted}
use Rattle.pip_model.specs.Acts.{text_of}
use Rattle.pip_certificates.specs.MergeLaw.{ToldPart}
use Rattle.pip_search.proofs.Picking.{at_map}
use Rattle.pip_search.specs.Certificates.{Portion}
use Rattle.pip_search_commands.proofs.RunsChosen.{lines_known, runs_are_choices}
use Rattle.pip_search_commands.specs.RunLaw.{CanComeBy, choices_in, steps_from}
use Rattle.pip_search_commands.specs.SearchDues.{begun_moment, image_scope}
use Rattle.pip_lab_commands.specs.CertifiedRuns.{CertificatesNameRuns, IsMergedLabel}
use Rattle.pip_lab_commands.specs.Words.{from_first}

pub certificates_name_runs : CertificatesNameRuns
certificates_name_runs input i from base first ts text g bytes is booted are same merged whole plans seed n quiet =
    let a = accepted input i bytes is in
    let says = certificates_say i from base first ts text g a.cpus_least a.cpus_most booted are same merged whole in
    let words = words_with first base in
    let run = runs_are_choices input i from from_first plans seed n words bytes is quiet in
    lines_known (CanComeBy words (image_scope i from) (begun_moment i from_first) (choices_in plans 0 n))
    (IsMergedLabel g) n 0 (text_of (steps_from i from_first plans seed n))
    (λ label some can.
    let s = says.all.told label can.0 can.2 some in
    let t = at_map (λ (t : ToldPart). t.portion) ts s.place s.part s.at in
    says.labels s.place s.has.place t.0 label t.1.0
    (subst (λ (p : Portion). slice_get p.labels s.has.place ≡ Some label) (sym t.1.1) s.has.at)) run.1
