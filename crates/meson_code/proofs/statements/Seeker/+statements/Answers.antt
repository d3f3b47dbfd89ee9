use Rattle.std.proofs.Common.{◌≡◌, ◌+◌, ◌*◌, ◌∙◌, Some, Option, sym, ap, refl, get_or, length, arith}
use Rattle.std.specs.Prelude.{◌==◌, false, true, option_map}
use Rattle.std.proofs.lemmas.Result.{IfOk-weaker}
use Rattle.meson_syntax.specs.Grammar.{block_words, statement_words}
use Rattle.meson_syntax.specs.View.{block_view, otherwise_view, stmt_view}
use Rattle.meson_syntax.specs.declared.tree.Stmt.TheFolds.{the_lemmas}
use Rattle.meson_syntax.proofs.tree.Stmt.TheLaws as stmts
use Rattle.meson_syntax.proofs.tree.Branch.TheLaws as branches
use Rattle.meson_calls.specs.declared.call.CallRef.{CallRef}
use Rattle.meson_calls.specs.Project.{child, place}
use Rattle.meson_calls.proofs.StatementParts.{branch_block, branches_count, if_view, two_each}
use Rattle.meson_calls.proofs.WalkedWords.{block_fits, stmt_fits}
use Rattle.meson_targets.specs.TargetEdits.{StatementPlace}
use Rattle.meson_targets.specs.inside.TargetViews.{place_view}
use Rattle.meson_places.specs.Names.{line_of}
use Rattle.meson_code.specs.Statements.{begins_on, placed_in, statements_of_block, statements_of_otherwise, statements_within}
use Rattle.meson_code.proofs.Searches.{begins, begins_not, branched, branched_one, first, found, listed, listed_one, none_before, one_before, turn}
use denote.Param.Weighed.{at_most}
use Rattle.meson_code.proofs.statements.Seeker.+statements.Goals as goal

-- ---- a statement

pub at_stmt-returns-then-has-clause-first : goal.at_stmt-returns-then-has-clause-first
at_stmt-returns-then-has-clause-first t c =
    let source = c.args.self.now.line.source.now in
    let line = c.args.self.now.line.number in
    let p = place c.args.self.now.file c.args.path.now.items in
    let n = c.args.number in
    let x = stmt_view source c.args.stmt.now in
    let is : begins_on source line x ≡ true = ap (λ s. line_of source s.from == line) (sym (c.span_of_stmt.ensures source)) ∙ sym c.has.ensures ∙ c.if-has.true in
    let at_block : CallRef → Option StatementPlace = λ b. Some (record { block = b; number = n }) in
    ap at_block (c.in_ok-block.ensures ∙ ap (place c.args.self.now.file) c.as_slice.ensures.value) ∙ sym (begins source line (placed_in p n x) (statements_within (child p n) x) is)

pub at_stmt-returns-clause-first : goal.at_stmt-returns-clause-first
at_stmt-returns-clause-first t c =
    let source = c.args.self.now.line.source.now in
    let line = c.args.self.now.line.number in
    let file = c.args.self.now.file in
    let p = place file c.args.path.now.items in
    let n = c.args.number in
    let x = stmt_view source c.args.stmt.now in
    let is : begins_on source line x ≡ false = ap (λ s. line_of source s.from == line) (sym (c.span_of_stmt.ensures source)) ∙ sym c.has.ensures ∙ c.if-has.false in
    c.in_ok-found.ensures.first ∙ ap (λ path. first source line (statements_within (place file path) x)) c.in_ok-push.ensures.items
    ∙ sym (begins_not source line (placed_in p n x) (statements_within (child p n) x) is)

-- ---- a list of statements

pub in_stmts-at_stmt-requires : goal.in_stmts-at_stmt-requires
in_stmts-at_stmt-requires t c =
    let source = c.args.self.now.line.source.now in
    let deep = at_most stmts.the_size c.args.stmts.now c.loop-i.i c.index-stmts-i.result c.loop-i-test.true in
    let fits = stmt_fits source c.args.stmts.now c.loop-i.i c.index-stmts-i.result _ c.loop-i-test.true c.requires.fits in
    (grind (arith, the_lemmas, deep), omega (arith, fits, ap (λ s. length (statement_words (stmt_view source s))) c.index-stmts-i.is))

pub in_stmts-returns-in-Some-clause-first : goal.in_stmts-returns-in-Some-clause-first
in_stmts-returns-in-Some-clause-first t c =
    let source = c.args.self.now.line.source.now in
    let line = c.args.self.now.line.number in
    let file = c.args.self.now.file in
    let p = place file c.args.path.now.items in
    let i = c.loop-i.i in
    let x = c.index-stmts-i.result in
    let here : listed_one source (place file c.loop-i.path.items) i x ≡ listed_one source p i (get_or c.args.stmts.now i x) =
    ap (λ path. listed_one source (place file path) i x) c.loop-i.invariant.0 ∙ ap (listed_one source p i) c.index-stmts-i.is in
    found source line (listed source p) (listed_one source p) 1 (λ n s ss. refl) c.args.stmts.now i x i _ _ c.loop-i-test.true here c.loop-i.invariant.1 (place_view c.in-Some.found)
    (ap (option_map place_view) (sym c.in-Some.is) ∙ c.in_ok-found.ensures.first)

pub in_stmts-loop-i-preserved : goal.in_stmts-loop-i-preserved
in_stmts-loop-i-preserved t c =
    let source = c.args.self.now.line.source.now in
    let line = c.args.self.now.line.number in
    let file = c.args.self.now.file in
    let p = place file c.args.path.now.items in
    let i = c.loop-i.i in
    let x = c.index-stmts-i.result in
    let here : listed_one source (place file c.loop-i.path.items) i x ≡ listed_one source p i (get_or c.args.stmts.now i x) =
    ap (λ path. listed_one source (place file path) i x) c.loop-i.invariant.0 ∙ ap (listed_one source p i) c.index-stmts-i.is in (
      c.in_ok-found.ensures.back ∙ c.loop-i.invariant.0,
      turn source line (listed source p) (listed_one source p) 1 (λ n s ss. refl) c.args.stmts.now i x i _ _ c.loop-i-test.true here c.loop-i.invariant.1 (i + 1) refl
          (ap (option_map place_view) (sym c.in_default.is) ∙ c.in_ok-found.ensures.first),
    )

-- ---- branches

pub in_branches-in_block-requires : goal.in_branches-in_block-requires
in_branches-in_block-requires t c =
    let source = c.args.self.now.line.source.now in
    let list = c.args.branches.now in
    let b = c.index-branches-i.result in
    let deep = at_most branches.the_size list c.loop-i.i b c.loop-i-test.true in
    let inside = block_fits source list c.loop-i.i b _ c.loop-i-test.true c.requires.fits in
    (grind (arith, the_lemmas, deep), omega (arith, inside, ap (λ k. length (block_words k)) (branch_block source (get_or list c.loop-i.i b))))

pub in_branches-returns-in-Some-clause-first : goal.in_branches-returns-in-Some-clause-first
in_branches-returns-in-Some-clause-first t c =
    let source = c.args.self.now.line.source.now in
    let line = c.args.self.now.line.number in
    let file = c.args.self.now.file in
    let p = place file c.args.path.now.items in
    let i = c.loop-i.i in
    let x = get_or c.args.branches.now i c.index-branches-i.result in
    let here : statements_of_block (child (place file c.loop-i.path.items) (2 * i + 1)) (block_view source x.block) ≡ branched_one source p (2 * i) x =
    ap (λ path. statements_of_block (child (place file path) (2 * i + 1)) (block_view source x.block)) c.loop-i.invariant.0
    ∙ ap (statements_of_block (child p (2 * i + 1))) (sym (branch_block source x)) in
    found source line (branched source p) (branched_one source p) 2 (λ n b bs. refl) c.args.branches.now i c.index-branches-i.result (2 * i) _ _ c.loop-i-test.true here c.loop-i.invariant.1 (place_view c.in-Some.found)
    (ap (option_map place_view) (sym c.in-Some.is) ∙ c.in_ok-found.ensures.first)

pub in_branches-loop-i-preserved : goal.in_branches-loop-i-preserved
in_branches-loop-i-preserved t c =
    let source = c.args.self.now.line.source.now in
    let line = c.args.self.now.line.number in
    let file = c.args.self.now.file in
    let p = place file c.args.path.now.items in
    let i = c.loop-i.i in
    let x = get_or c.args.branches.now i c.index-branches-i.result in
    let here : statements_of_block (child (place file c.loop-i.path.items) (2 * i + 1)) (block_view source x.block) ≡ branched_one source p (2 * i) x =
    ap (λ path. statements_of_block (child (place file path) (2 * i + 1)) (block_view source x.block)) c.loop-i.invariant.0
    ∙ ap (statements_of_block (child p (2 * i + 1))) (sym (branch_block source x)) in (
      c.in_ok-found.ensures.back ∙ c.loop-i.invariant.0,
      turn source line (branched source p) (branched_one source p) 2 (λ n b bs. refl) c.args.branches.now i c.index-branches-i.result (2 * i) _ _ c.loop-i-test.true here c.loop-i.invariant.1 (2 * (i + 1)) (omega arith)
          (ap (option_map place_view) (sym c.in_default.is) ∙ c.in_ok-found.ensures.first),
    )

-- ---- what is within a statement

pub in_stmt-returns-in-Some-clause-first : goal.in_stmt-returns-in-Some-clause-first
in_stmt-returns-in-Some-clause-first t c =
    let source = c.args.self.now.line.source.now in
    let line = c.args.self.now.line.number in
    let p = place c.args.self.now.file c.args.path.now.items in
    let k = c.in-If in
    let others = statements_of_otherwise p (branches_count source k.branches) (otherwise_view source k.otherwise) in
    let is = ap (option_map place_view) (sym c.in-Some.is) ∙ c.in_ok-found-in-If.ensures.first ∙ ap (λ bs. first source line (branched source p 0 bs)) c.get-branches.ensures in
    sym (one_before source line (branched source p 0 k.branches) others (place_view c.in-Some.found) is)
    ∙ ap (λ s. first source line (statements_within p s)) (sym (if_view source k.span k.branches k.otherwise))
    ∙ ap (λ s. first source line (statements_within p (stmt_view source s))) (sym k.is)

pub in_stmt-returns-in_default-clause-first : goal.in_stmt-returns-in_default-clause-first
in_stmt-returns-in_default-clause-first t c =
    let source = c.args.self.now.line.source.now in
    let line = c.args.self.now.line.number in
    let file = c.args.self.now.file in
    let p = place file c.args.path.now.items in
    let k = c.in-If in
    let else_block = otherwise_view source k.otherwise in
    let number = ap (λ bs. 2 * length bs) c.get-branches.ensures ∙ two_each source k.branches in
    let others = statements_of_otherwise p (branches_count source k.branches) else_block in
    let none = ap (option_map place_view) (sym c.in_default.is) ∙ c.in_ok-found-in-If.ensures.first ∙ ap (λ bs. first source line (branched source p 0 bs)) c.get-branches.ensures in
    let same =
    ap (λ path. first source line (statements_of_otherwise (place file path) (2 * length c.get-branches.result.now) else_block)) c.in_ok-found-in-If.ensures.back
    ∙ ap (λ n. first source line (statements_of_otherwise p n else_block)) number
    ∙ sym (none_before source line (branched source p 0 k.branches) others none)
    ∙ ap (λ s. first source line (statements_within p s)) (sym (if_view source k.span k.branches k.otherwise))
    ∙ ap (λ s. first source line (statements_within p (stmt_view source s))) (sym k.is) in
    IfOk-weaker c.in_otherwise.result _ _ (λ found is. is ∙ same) c.in_otherwise.ensures.first
