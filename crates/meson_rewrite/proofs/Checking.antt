-- Whether the files of a session have the digests that were kept.
use Rattle.std.proofs.Common.{◌≡◌, ◌⊎◌, ◌∙◌, ℕ, List, true, false, Result, bytes_eq, inr, sym, ap}
use Rattle.std.specs.Prelude.{IfErr}
use Rattle.std.proofs.lemmas.Bool.Decides.{not_from_Decides}
use Rattle.std.proofs.lemmas.Result.{IfErr-weaker}
use Rattle.std.proofs.lemmas.Slice.Eq.{bytes_eq-Decides}
use Rattle.meson_command.specs.declared.asked.Flags.{Flags}
use Rattle.meson_script.specs.declared.session.Report.{Report}
use Rattle.meson_script.specs.declared.session.Session.{Session}
use Rattle.meson_splice.specs.declared.file_set.File.{File}
use Rattle.meson_sums.specs.Sums.{sums}
use Rattle.meson_rewrite.specs.Steps.{HasSums, MayRefuseStep}
use Rattle.meson_rewrite.specs.Stops.{WantsMemory}
use Rattle.meson_rewrite.specs.declared.request.NamedFile.{NamedFile}
use Rattle.meson_rewrite.specs.declared.request.Step.{Step}
use Rattle.meson_rewrite.specs.declared.stop.Stop.{Stop}

module _ (kept : NamedFile) (old : Session) (files : List File) (bytes : List ℕ) (are_files : files ≡ old.project.files) (are_bytes : bytes ≡ kept.bytes) where
  pub has-sums : bytes_eq (sums files) bytes ≡ true → HasSums old kept
  has-sums is = sym are_bytes ∙ sym ((bytes_eq-Decides (sums files) bytes).0 is) ∙ ap sums are_files

  pub other-sums : bytes_eq (sums files) bytes ≡ false → HasSums old kept → ⊥
  other-sums is has = not_from_Decides _ (bytes_eq-Decides (sums files) bytes) is (ap sums are_files ∙ sym has ∙ sym are_bytes)

-- a refusal of a step, want of memory aside
pub may-refuse : (flags : Flags) (step : Step) (old : Session) (r : Result Report Stop) → IfErr r (MayRefuseStep flags step old) → IfErr r (λ why. WantsMemory why ⊎ MayRefuseStep flags step old why)
may-refuse flags step old r refused = IfErr-weaker r (MayRefuseStep flags step old) (λ why. WantsMemory why ⊎ MayRefuseStep flags step old why) (λ why may. inr may) refused
