-- Steps that may be done one after another in the trees of a project: one that changes a tree; and that a string is written.
use Rattle.meson_steps.proofs.Words.{◌≡◌, ℕ, List, ◌∷◌, Some, refl, sym, ap, subst, All, Ok, slice_set, IsUtf8, All-set, literal, expression_words, nth}
use Rattle.meson_steps.proofs.Words.{Nowhere, Plain, Expression, Written, edited, IsWritten, Writes, MayStandBetween, AreDoable, one, Step, string_of}
use Rattle.meson_steps.proofs.Words.{written_text, IsSet}
use Rattle.meson_steps.proofs.SetLiterals.{text_set}
use Rattle.meson_steps.proofs.WithOne.{change_there}

-- ---- one step

-- the trees after a step that makes one of them another one
pub step_doable : (s : Step) (steps : List Step) (trees : List Plain) (t now : Plain) → nth trees s.file ≡ Some t → edited s.edit t ≡ Some now → Writes s.edit → All MayStandBetween trees → MayStandBetween now
    → AreDoable steps (slice_set trees s.file now) → AreDoable (s ∷ steps) trees
step_doable s steps trees t now is made writes all stands rest =
    one s steps trees (slice_set trees s.file now) writes (change_there (edited s.edit) trees s.file t now is made) (All-set MayStandBetween trees s.file now stands all) rest

-- ---- strings

pub text_written : (name : List ℕ) → IsUtf8 name → IsWritten (literal name) (expression_words (string_of name))
text_written name utf8 =
    let s : IsSet (Ok (written_text name)) (literal name) = text_set name (Ok (literal name)) refl utf8 in
    let same : written_text name ≡ record { bytes = literal name; node = s.new.node } = cc in
    let node : string_of name ≡ s.new.node = ap (λ (w : Written (Expression Nowhere)). w.node) same in
    subst (λ e. IsWritten (literal name) (expression_words e)) (sym node) s.new.writes
