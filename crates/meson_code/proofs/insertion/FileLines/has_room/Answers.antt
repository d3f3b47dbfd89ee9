use Rattle.std.proofs.Common.{◌≡◌, ◌-◌, length, sym, ap, ap₂, ◌∙◌, subst}
use Rattle.std.specs.Prelude.{◌/◌, nat_le}
use Rattle.meson_syntax.specs.Reads.{Reads}
use Rattle.meson_syntax.specs.Tree.{erase}
use Rattle.meson_syntax.specs.View.{view}
use Rattle.meson_syntax.proofs.parsing.FileErased.{file-depth-erased}
use Rattle.meson_code.proofs.Rooms.{around-half, code-deep}
use Rattle.meson_code.proofs.insertion.FileLines.has_room.Goals as goal

pub returns-in-Ok-clause-room : goal.returns-in-Ok-clause-room
returns-in-Ok-clause-room c =
    let code = c.args.code.now in
    let source = c.as_bytes.result.now in
    let f = view source c.in-Ok.tree in
    let same : source ≡ code = c.as_bytes.ensures.value ∙ c.get-2.ensures.text in
    let reads : Reads code (erase f) = subst (λ b. Reads b (erase f)) same c.in-Ok.ensures.reads.reads in
    let half = ap (λ steps. length steps / 2) c.get.ensures ∙ sym (around-half c.args.self.now.block.path.steps) in
    c.nests_within.ensures source
    ∙ ap₂ nat_le (sym (file-depth-erased f) ∙ sym (code-deep code (erase f) reads)) (c.saturating_sub.ensures ∙ ap (λ n. 64 - n) half)
