use Rattle.std.proofs.Common.{ℕ, List, ◌∷◌, ◌∙◌, [], map, sym, ap, subst, refl}
use Rattle.std.specs.List.{find}
use Rattle.meson_lex.specs.declared.kinds.Span.{Span}
use Rattle.meson_lex.specs.Kinds.{IsIdentifier}
use Rattle.meson_syntax.specs.Tree.{Name}
use Rattle.meson_syntax.specs.View.{names_at, text_at}
use Rattle.meson_calls.proofs.NamedNotes.{identifier_at}
use Rattle.meson_targets.specs.inside.TargetViews.{place_view}
use Rattle.meson_places.specs.Names.{loaded_in}
use Rattle.meson_code.specs.Removal.{is_needed}
use Rattle.meson_code.proofs.FirstFound.{found_here, none_here}
use Rattle.meson_code.proofs.removal.Removal.first_of_loop.Goals as goal

abbrev none : Span
none = record { from = 0; to = 0 }

abbrev all : List ℕ → List Span → List (List ℕ)
all source xs = map (λ (x : Name Span). x.text) (names_at source xs)

pub identifier_text-name-requires : goal.identifier_text-name-requires
identifier_text-name-requires c =
    let source = c.args.source.now in
    subst IsIdentifier (sym c.text_of.ensures) (identifier_at source c.args.names.now c.loop-i.i none c.loop-i-test.true c.requires.named)

pub returns-in-Some : goal.returns-in-Some
returns-in-Some c =
    let source = c.args.source.now in
    let needed = is_needed (loaded_in c.args.self.now.sources) (place_view c.args.self.now.statement.now) in
    found_here needed (all source) (λ x. text_at source x ∷ []) (λ x xs. refl) c.args.names.now c.loop-i.i none _ c.loop-i-test.true c.loop-i.invariant c.in-Some.found
    (sym c.in-Some.is ∙ c.in_ok-found.ensures ∙ ap (λ x. find needed (x ∷ [])) (c.identifier_text-name.ensures ∙ c.text_of.ensures))

pub loop-i-preserved : goal.loop-i-preserved
loop-i-preserved c =
    let source = c.args.source.now in
    let needed = is_needed (loaded_in c.args.self.now.sources) (place_view c.args.self.now.statement.now) in
    none_here needed (all source) (λ x. text_at source x ∷ []) (λ x xs. refl) c.args.names.now c.loop-i.i none _ c.loop-i-test.true c.loop-i.invariant
    (sym c.in_default.is ∙ c.in_ok-found.ensures ∙ ap (λ x. find needed (x ∷ [])) (c.identifier_text-name.ensures ∙ c.text_of.ensures))
