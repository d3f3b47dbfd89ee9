use Rattle.std.proofs.Common.{◌≡◌, sym, ap, ◌∙◌, subst}
use Rattle.std.proofs.lemmas.Result.{IfOk-weaker}
use Rattle.std.specs.Str.{IsUtf8}
use Rattle.meson_lex.specs.Items.{IsItemList}
use Rattle.meson_edit.specs.ExchangedLines.{IsLinesText, file_statements}
use Rattle.meson_statements.specs.Places.{text_at}
use Rattle.meson_statements.proofs.Placed.{placed-lines, placed-utf8}
use Rattle.meson_statements.proofs.code.StatementCode.placed.Goals as goal

pub returns-clause-lines : goal.returns-clause-lines
returns-clause-lines c = λ xs list t reads.
    let around = c.args.around in
    let text = c.args.self.now in
    let same : c.as_bytes.result.now ≡ text = c.as_bytes.ensures.value ∙ c.get.ensures ∙ c.self.view_is in
    let items = reads.spells.items in
    let are = reads.spells.are_items in
    IfOk-weaker c.placed.result _ _
    (λ v is. subst (λ b. IsLinesText b (file_statements t))
    (sym (is ∙ ap (λ code. text_at around.source.now xs around.blank code items around.side) same))
    (placed-lines around.source.now xs list text items are around.blank t reads.spells around.side))
    (c.placed.ensures xs items list (subst (λ b. IsItemList b items) (sym same) are))

pub returns-clause-utf8 : goal.returns-clause-utf8
returns-clause-utf8 c = λ xs list.
    let around = c.args.around in
    let text = c.self.inside.text in
    let same : c.as_bytes.result.now ≡ text = c.as_bytes.ensures.value ∙ c.get.ensures in
    let reads = c.self.invariant.reads in
    let items = reads.spells.items in
    let are = reads.spells.are_items in
    IfOk-weaker c.placed.result _ _
    (λ v is. subst IsUtf8
    (sym (is ∙ ap (λ code. text_at around.source.now xs around.blank code items around.side) same))
    (placed-utf8 around.source.now xs list text items are around.blank reads.source.utf8 around.side))
    (c.placed.ensures xs items list (subst (λ b. IsItemList b items) (sym same) are))
