use Rattle.std.proofs.Common.{◌≡◌, ◌∷◌, ◌++◌, [], get_or, sym, ap, ◌∙◌, subst}
use Rattle.std.proofs.lemmas.Result.{IfOk-weaker}
use Rattle.meson_lex.specs.declared.kinds.Span.{Span}
use Rattle.meson_splice.specs.Files.{bytes_at}
use Rattle.meson_syntax.specs.declared.operator.Bracket.TheVariants as bracket
use Rattle.meson_syntax.specs.Grammar.{listing_depth}
use Rattle.meson_syntax.specs.Paths.{ListAt, list_at}
use Rattle.meson_syntax.specs.ReadsList.{ReadsListWithin}
use Rattle.meson_syntax.specs.View.{list_view, view}
use Rattle.meson_syntax.proofs.parsing.Erased.{listing-depth-erased}
use Rattle.meson_syntax.proofs.paths.Reaching.{map-some}
use Rattle.meson_calls.proofs.Loads.{as_many}
use Rattle.meson_places.specs.Room.{alone, has_room}
use Rattle.meson_steps.proofs.Bracketed.{written_complete}
use Rattle.meson_places.proofs.DepthTexts.{same_depth}
use Rattle.meson_places.proofs.RoomFound.{list_past, no_list, room_found}
use Rattle.meson_places.proofs.room.has_room_for.Goals as goal

pub returns-then-list-sources : goal.returns-then-list-sources
returns-then-list-sources c = λ x.
    sym (ap (has_room x.node) (list_past c.args.sources.files.now c.args.sources.trees.now c.args.list.now c.if-list-sources.true))

pub returns-in-None : goal.returns-in-None
returns-in-None c = λ x.
    let files = c.args.sources.files.now in
    let trees = c.args.sources.trees.now in
    let at_ = c.args.list.now in
    sym (ap (has_room x.node)
    (no_list files trees at_ c.index-sources-list.result (as_many files trees c.requires) c.if-list-sources.false
    (c.in-None.ensures (bytes_at at_.file files))))

pub returns-in-Ok : goal.returns-in-Ok
returns-in-Ok c = λ x.
    let files = c.args.sources.files.now in
    let trees = c.args.sources.trees.now in
    let at_ = c.args.list.now in
    let fs = bytes_at at_.file files in
    let d = c.index-sources-list.result in
    let source = c.as_slice-bytes.result.now in
    let whole : source ≡ 91 ∷ (c.args.text.now ++ 93 ∷ []) = c.as_slice-bytes.ensures.value ∙ c.in_ok-whole.ensures in
    let l = alone x.node in
    let found = c.in-Ok.ensures.finds l (subst (λ b. ReadsListWithin 66 bracket.Square b l) (sym whole) (written_complete c.args.text.now 65 x.node x.writes x.level x.shallow)) in
    let m = list_view fs c.in-Ok.alone in
    let deep : listing_depth m ≡ listing_depth l = same_depth fs source c.in-Ok.alone ∙ sym (listing-depth-erased (list_view source c.in-Ok.alone)) ∙ ap listing_depth found in
    let there = map-some (λ (p : ListAt Span). p.list) (list_at (view fs (get_or trees at_.file d)) at_.path.steps) (list_view fs c.in_default.field-0.now) (sym (c.in_default.ensures fs)) in
    let is = room_found files trees at_ d (as_many files trees c.requires) c.if-list-sources.false there.0 there.1 m x.node deep in
    IfOk-weaker c.nests_with.result _ _ (λ b h. h ∙ is) (c.nests_with.ensures fs there.0 there.1)

pub returns : goal.returns
returns c = λ x.
    let source = c.as_slice-bytes.result.now in
    let whole : source ≡ 91 ∷ (c.args.text.now ++ 93 ∷ []) = c.as_slice-bytes.ensures.value ∙ c.in_ok-whole.ensures in
    let l = alone x.node in
    IfOk-weaker c.not_list.result _ _
    (λ b h. absurd (h.1 (c.in-Err.ensures.finds l (subst (λ t. ReadsListWithin 66 bracket.Square t l) (sym whole) (written_complete c.args.text.now 65 x.node x.writes x.level x.shallow))))) c.not_list.ensures
