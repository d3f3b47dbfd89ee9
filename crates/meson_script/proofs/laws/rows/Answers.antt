use Rattle.std.proofs.Common.{ℕ, List, codes, Result, Ok, refl}
use Rattle.serde_json.specs.Data.{Data}
use Rattle.serde_json.specs.Written.{compact_text}
use Rattle.meson_lex.specs.declared.kinds.Span.{Span}
use Rattle.meson_splice.specs.declared.file_set.File.{File}
use Rattle.meson_splice.specs.Patch.{then_ok}
use Rattle.meson_calls.specs.declared.call.Reading.TheVariants.{Written}
use Rattle.meson_calls.specs.declared.call.Role.{Role}
use Rattle.meson_calls.specs.declared.call.Role.TheVariants as role
use Rattle.meson_calls.specs.declared.refusal.Refusal.{Refusal}
use Rattle.meson_calls.specs.Project.{Project}
use Rattle.meson_script.proofs.ByTrees.{call_of, target_of}
use Rattle.meson_script.proofs.OnTexts.{on_texts}
use Rattle.meson_script.proofs.ReadTexts.{by-tree}
use Rattle.meson_script.proofs.laws.rows.Goals as goal
use Rattle.meson_calls.specs.Searching.{anywhere}

abbrev text_of : Result Data Refusal → Result (List ℕ) Refusal
text_of listing = then_ok listing (λ d. Ok (compact_text d))

abbrev target_text : List ℕ → List File → Project Span → Result (List ℕ) Refusal
target_text id files p = text_of (target_of files p Written (anywhere id))

abbrev call_text : Role → List ℕ → List File → Project Span → Result (List ℕ) Refusal
call_text r id files p = text_of (call_of files p r (anywhere id))

pub returns-clause-target : goal.returns-clause-target
unfolding on_texts
returns-clause-target c = λ l h is. by-tree _ (target_text (codes "testExe")) _ l h is refl

pub returns-clause-project : goal.returns-clause-project
unfolding on_texts
returns-clause-project c = λ l h is. by-tree _ (call_text role.Project (codes "/")) _ l h is refl

pub returns-clause-dependency : goal.returns-clause-dependency
unfolding on_texts
returns-clause-dependency c = λ l h is. by-tree _ (call_text role.Dependency (codes "d")) _ l h is refl

pub returns-clause-refused : goal.returns-clause-refused
unfolding on_texts
returns-clause-refused c = (
  λ l h is. by-tree _ (target_text (codes "e")) _ l h is refl,
  λ l h is. by-tree _ (call_text role.Target (codes "e")) _ l h is refl,
)
