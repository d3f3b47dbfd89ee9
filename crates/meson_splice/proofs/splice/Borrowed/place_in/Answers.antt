use Rattle.std.proofs.Common.{◌≡◌, ◌∙◌, Some, None, Err, ap, sym}
use Rattle.meson_splice.specs.inside.Borrowed.{splice_of}
use Rattle.meson_splice.specs.Files.{position_of_file}
use Rattle.meson_splice.specs.declared.fault.SpliceFault.TheVariants.{NoFile}
use Rattle.meson_splice.proofs.Sets.{patched_in-found, patched_in-none}
use Rattle.meson_splice.proofs.splice.Borrowed.place_in.Goals as goal

pub returns-in-Some-clause-does : goal.returns-in-Some-clause-does
returns-in-Some-clause-does c =
    let files = c.args.files.now in
    let here : position_of_file c.args.self.file.now files ≡ Some c.in-Some.place = ap (λ n. position_of_file n files) (sym c.get.ensures) ∙ sym c.find.ensures ∙ c.in-Some.is in
    patched_in-found files (splice_of c.args.self) c.in-Some.place here

pub returns-in_ok-clone-in-None-clause-refused : goal.returns-in_ok-clone-in-None-clause-refused
returns-in_ok-clone-in-None-clause-refused c = λ some.
    let files = c.args.files.now in
    let none : position_of_file c.args.self.file.now files ≡ None = ap (λ n. position_of_file n files) (sym c.get.ensures) ∙ sym c.find.ensures ∙ c.in-None.is in
    patched_in-none files (splice_of c.args.self) none ∙ ap (λ n. Err (NoFile n)) (sym c.in_ok-clone-in-None.ensures.cases)
