use Rattle.std.proofs.Common.{◌≡◌, Option, None, Some, ap, sym, ◌∙◌, refl, arith}
use Rattle.std.specs.Prelude.{Bool, true, false, not, ◌==◌, is_none, is_some, option_map}
use Rattle.meson_splice.specs.Files.{bytes_at}
use Rattle.meson_layout.specs.declared.primitive.BlankLines.TheVariants.{Trim}
use Rattle.meson_syntax.specs.View.{stmt_view}
use Rattle.meson_calls.proofs.Loads.{as_many}
use Rattle.meson_targets.specs.inside.TargetViews.{place_view}
use Rattle.meson_code.specs.Removal.{place_after}
use Rattle.meson_code.proofs.Counts.{number_few}
use Rattle.meson_code.proofs.WithValue.{found_there, none_there}
use Rattle.meson_code.proofs.removal.Removal.blank_lines.Goals as goal

none_of : {X : Type 0} (o : Option X) (b : Bool) → is_some o ≡ not b → b ≡ is_none o
none_of None true is = refl
none_of None false is = absurd (let no : ⊥ = cc in no)
none_of (Some x) true is = absurd (let no : ⊥ = cc in no)
none_of (Some x) false is = refl

none_mapped : {X Y : Type 0} (f : X → Y) (o : Option X) → is_none o ≡ is_none (option_map f o)
none_mapped f None = refl
none_mapped f (Some x) = refl

pub overflow_add-number : goal.overflow_add-number
overflow_add-number c =
    let s = c.args.self.now in
    let few = number_few s.sources.files.now s.sources.trees.now c.requires.project (place_view s.statement.now) c.requires.there.0 c.requires.there.1 in
    omega (arith, few)

pub returns-then-block-self : goal.returns-then-block-self
returns-then-block-self c =
    let s = c.args.self.now in
    let a = place_view s.statement.now in
    sym (ap (λ o. Trim (a.number == 0) (is_none o)) (none_there s.sources.files.now s.sources.trees.now (place_after a) c.if-block-self.true))

pub returns-else-block-self : goal.returns-else-block-self
returns-else-block-self c =
    let s = c.args.self.now in
    let a = place_view s.statement.now in
    let files = s.sources.files.now in
    let trees = s.sources.trees.now in
    let bytes = bytes_at a.block.file files in
    let d = c.index-self-block.result in
    let there = found_there files trees (place_after a) d (as_many files trees c.requires.project) c.if-block-self.false in
    ap (Trim (a.number == 0))
    (none_of c.stmt_at.result c.is_none-last.result c.is_none-last.ensures ∙ none_mapped (λ x. stmt_view bytes x.now) c.stmt_at.result ∙ ap is_none (c.stmt_at.ensures bytes ∙ sym there))
