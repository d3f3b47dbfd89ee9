use Rattle.std.proofs.Common.{◌≡◌, ◌+◌, ◌∷◌, ◌++◌, [], sym, ap, ◌∙◌, subst, arith}
use Rattle.std.specs.Prelude.{nat_le}
use Rattle.std.proofs.lemmas.Bool.{le-leb}
use Rattle.std.proofs.Common.{leb-true}
use Rattle.std.proofs.lemmas.Result.{IfOk-weaker}
use Rattle.meson_syntax.specs.declared.operator.Bracket.TheVariants as bracket
use Rattle.meson_syntax.specs.Grammar.{expression_depth, listing_depth}
use Rattle.meson_syntax.specs.ReadsList.{ReadsListWithin}
use Rattle.meson_syntax.specs.Tree.{erase_listing}
use Rattle.meson_syntax.specs.View.{list_view}
use Rattle.meson_steps.proofs.Bracketed.{written_complete}
use Rattle.meson_places.specs.Room.{alone}
use Rattle.meson_places.proofs.AssignedRoom.{not_true, one_reading, read_deeper}
use Rattle.meson_places.proofs.assigned.nests_within.Goals as goal

pub returns-in-Ok : goal.returns-in-Ok
returns-in-Ok c = λ x.
    let source = c.as_slice.result.now in
    let depth = c.args.depth in
    let whole : source ≡ 91 ∷ (c.args.code.now ++ 93 ∷ []) = c.as_slice.ensures.value ∙ c.in_ok-whole.ensures in
    let read = c.in-Ok.ensures.reads.reads in
    let l = erase_listing (list_view source c.in-Ok.field-0) in
    let known = subst (λ s. ReadsListWithin 66 bracket.Square s (alone x.node)) (sym whole) (written_complete c.args.code.now 65 x.node x.writes x.level x.shallow) in
    let same : l ≡ alone x.node = one_reading (depth + 66) bracket.Square source l (alone x.node) (read_deeper (depth + 1) (depth + 66) bracket.Square source l (omega arith) read)
    (read_deeper 66 (depth + 66) bracket.Square source (alone x.node) (omega arith) known) in
    let low = read.depth in
    sym (le-leb (expression_depth x.node) depth (omega (arith, low, ap listing_depth same)))

pub returns : goal.returns
returns c = λ x.
    let source = c.as_slice.result.now in
    let depth = c.args.depth in
    let whole : source ≡ 91 ∷ (c.args.code.now ++ 93 ∷ []) = c.as_slice.ensures.value ∙ c.in_ok-whole.ensures in
    IfOk-weaker c.not_list.result _ _
    (λ b h. h.0 ∙ not_true (nat_le (expression_depth x.node) depth) (λ is. h.1 (c.in-Err.ensures.finds (alone x.node) (subst (λ s. ReadsListWithin (depth + 1) bracket.Square s (alone x.node)) (sym whole)
    (written_complete c.args.code.now depth x.node x.writes x.level (leb-true (expression_depth x.node) depth is)))))) c.not_list.ensures
