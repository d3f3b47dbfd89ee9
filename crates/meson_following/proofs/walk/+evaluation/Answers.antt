use Rattle.std.proofs.Common.{◌≡◌, ℕ, suc, ◌+◌, ◌*◌, ◌<◌, ◌≤◌, ◌^◌, length, get_or, refl, sym, ap, subst, ◌∙◌, arith}
use Rattle.std.specs.Prelude.{IfOk, List, None, true}
use Rattle.std.proofs.lemmas.Result.{IfOk-weaker}
use Rattle.meson_lex.specs.declared.kinds.Kind.TheVariants.{WordIf}
use Rattle.meson_syntax.specs.declared.tree.Branch.{Branch}
use Rattle.meson_syntax.specs.declared.tree.Stmt.{Stmt}
use Rattle.meson_syntax.specs.Grammar.{block_words, branches_words, expression_words, otherwise_words, statement_words}
use Rattle.meson_syntax.specs.Tree.{Statement, branches_of, call, iteration}
use Rattle.meson_syntax.specs.View.{block_view, branch_view, branches_view, expr_view, list_view, name_at, names_at, stmt_view, text_at}
use Rattle.meson_calls.specs.Project.{child, place, placed}
use Rattle.meson_calls.specs.inside.Walks.{else_view}
use Rattle.meson_calls.proofs.StatementParts.{branch_block, foreach_view}
use Rattle.meson_calls.proofs.WalkedWords.{condition_fits}
use Rattle.meson_calls.specs.ChosenNotes.{call_with}
use Rattle.meson_calls.proofs.GoodNotes.{call_view}
use Rattle.meson_following.proofs.GoodNodes.{call_good}
use Rattle.meson_lex.specs.declared.kinds.Span.{Span}
use Rattle.meson_following.specs.declared.flows.Flow as code
use Rattle.meson_following.specs.declared.walk.Trail.{Trail}
use Rattle.meson_following.specs.CodeMakers.{known_view}
use Rattle.meson_following.specs.Flows.{going_on, no_branch}
use Rattle.meson_following.specs.Makers.{touched}
use Rattle.meson_following.specs.Passing.{MayPass}
use Rattle.meson_following.specs.Walks.{AreRead, Chooses, Walks, arguments_flow, branch_chosen, call_effect, effect_flow, entered_flow, evaluated_flow, file_flow, found_view, here, otherwise_flow, project_of, statement_flow}
use Rattle.meson_following.proofs.Measures.{all_words, file_step, inner_step, lower_step}
use Rattle.meson_following.proofs.PassedTurns.{passed_over, still_here}
use Rattle.meson_following.proofs.ReadFiles.{block_read, block_within, file_named, file_walked, no_file_left, past_files, spanned_by, within_files}
use Rattle.meson_following.proofs.ReadParts.{assigned_is, body_less, body_read, branch_good, branch_less, branches_long, branches_read, evaluated_is, else_read, items_read, last_read, selection_within, stmt_read, stmt_within}
use Rattle.meson_following.proofs.Steps.{alone, moved}
use Rattle.meson_following.proofs.Turns.{block_ended, block_turn, branch_walked, each_ended, each_turn, selection_ended, selection_turn, selection_walked}
use Rattle.meson_following.proofs.Walked.{both_walked, nothing_walked}
use Rattle.meson_following.proofs.walk.+evaluation.Goals as goal
use Rattle.meson_following.proofs.walk.+evaluation.Goals.{Question::in_file-then-left-eq0-via-then-left-eq0, Question::in_file-then-left-eq0-via-else-left-eq0+then-file-self, Walk::in_selection-in-Some+in_ok-last-in-Some, Walk::in_selection-in-None}

-- ---- a file

pub Question::in_file-returns-then-left-eq0 : goal.Question::in_file-returns-then-left-eq0
Question::in_file-returns-then-left-eq0 t c =
    let q = c.args.self.now in
    let k = known_view c.args.now in
    let meant : going_on (touched k) ≡ file_flow q c.args.left c.args.file k = elim c.then-left-eq0.branch [
      | Question::in_file-then-left-eq0-via-then-left-eq0 w ↦ let e = w.if-left-eq0.true in let none : 0 ≡ c.args.left = omega (arith, e) in subst (λ n. going_on (touched k) ≡ file_flow q n c.args.file k) none (no_file_left q c.args.file k)
      | Question::in_file-then-left-eq0-via-else-left-eq0+then-file-self w ↦ let e = w.if-file-self.true in past_files q c.args.left c.args.file k (omega (arith, e))
    ] in
    alone c.args.quiet q c.going_on.result (found_view c.args.found.now) (file_flow q c.args.left c.args.file k) (c.going_on.ensures ∙ ap going_on c.in_ok-touch.ensures ∙ meant)

pub Question::in_file-name-requires : goal.Question::in_file-name-requires
Question::in_file-name-requires t c =
    let e = c.if-file-self.false in
    within_files c.args.self.now c.args.file (omega (arith, e)) c.requires

pub Question::in_file-bytes-requires : goal.Question::in_file-bytes-requires
Question::in_file-bytes-requires t c =
    let e = c.if-file-self.false in
    within_files c.args.self.now c.args.file (omega (arith, e)) c.requires

-- ---- the statements of a file

pub Walk::in_tree-loop-i-init : goal.Walk::in_tree-loop-i-init
Walk::in_tree-loop-i-init t c =
    let w = c.args.self.now in (
      record {
        meant = going_on (known_view c.args.now);
        walks = nothing_walked w c.args.trail.now c.going_on-flow.result (going_on (known_view c.args.now)) c.going_on-flow.ensures;
        rest = refl;
      },
      c.new-searches.ensures.searches w.source.now,
      c.new-searches.ensures.variable,
    )

pub Walk::in_tree-in_nth-requires : goal.Walk::in_tree-in_nth-requires
Walk::in_tree-in_nth-requires t c =
    let w = c.args.self.now in
    let words : Stmt → ℕ = λ x. length (statement_words (stmt_view w.source.now x)) in
    let block = w.tree.now.block in
    let less = stmt_within w.source.now block c.get-stmts.result.now c.get-stmts.ensures c.loop-i.i c.index-stmts-i-in-loop-i.result c.loop-i-test.true in (
      lower_step w.left (all_words (project_of w.question)) _ (length (block_words (block_view w.source.now block))) 5 6 t (subst (λ x. words x ≤ length (block_words (block_view w.source.now block))) (sym c.index-stmts-i-in-loop-i.is) less) (omega arith) (sym c.decreases),
      (
        c.requires.walks,
        subst (λ x. AreRead (statement_words (stmt_view w.source.now x))) (sym c.index-stmts-i-in-loop-i.is)
            (stmt_read w.source.now block c.get-stmts.result.now c.get-stmts.ensures c.loop-i.i c.index-stmts-i-in-loop-i.result c.loop-i-test.true c.requires.good),
      ),
    )

pub Walk::in_tree-loop-i-preserved-then-branch : goal.Walk::in_tree-loop-i-preserved-then-branch
Walk::in_tree-loop-i-preserved-then-branch t c =
    let w = c.args.self.now in
    let may = c.in_ok-may_pass.ensures.passes c.if-branch.true c.loop-i.invariant.2 in (
      passed_over w c.args.trail.now c.loop-i.trail _ c.loop-i.flow (known_view c.args.now) c.get-stmts.result.now c.loop-i.i c.index-stmts-i.result c.loop-i.invariant.0 c.requires.walks
          c.get-stmts.ensures c.loop-i-test.true
          (subst (λ x. MayPass w (child (here w c.loop-i.trail) c.loop-i.i) (stmt_view w.source.now x) (known_view c.loop-i.flow.now)) c.index-stmts-i.is may)
          c.in_ok-may_pass.ensures.back refl,
      c.in_ok-may_pass.ensures.passed,
      c.in_ok-may_pass.ensures.same ∙ c.loop-i.invariant.2,
    )

pub Walk::in_tree-loop-i-preserved : goal.Walk::in_tree-loop-i-preserved
Walk::in_tree-loop-i-preserved t c =
    let w = c.args.self.now in
    let middle : Trail = record { path = c.may_pass.new.path; found = c.loop-i.trail.found } in
    let turn = still_here w c.args.trail.now c.loop-i.trail middle c.loop-i.flow (known_view c.args.now) c.get-stmts.result.now c.loop-i.i c.loop-i.invariant.0 c.in_ok-may_pass.ensures.back refl in (
      block_turn w c.args.trail.now middle c.in_nth.new.trail c.loop-i.flow c.in_ok-next.next c.in_ok-flow.flow (known_view c.args.now) c.get-stmts.result.now c.loop-i.i c.index-stmts-i-in-loop-i.result turn c.loop-i-test.true
          (subst (λ x. Walks w middle c.in_nth.new.trail c.in_ok-next.next (statement_flow w (child (here w middle) c.loop-i.i) (stmt_view w.source.now x) (known_view c.loop-i.flow.now))) c.index-stmts-i-in-loop-i.is
          (subst (λ k. Walks w middle c.in_nth.new.trail c.in_ok-next.next (statement_flow w (child (here w middle) c.loop-i.i) (stmt_view w.source.now c.index-stmts-i-in-loop-i.result) (known_view k))) c.take-now.ensures.value c.in_ok-next.ensures))
          c.in_ok-flow.ensures,
      c.in_ok-may_pass.ensures.passed,
      c.in_ok-may_pass.ensures.same ∙ c.loop-i.invariant.2,
    )

pub Walk::in_tree-returns : goal.Walk::in_tree-returns
Walk::in_tree-returns t c =
    let w = c.args.self.now in
    block_ended w c.args.trail.now c.loop-i.trail c.loop-i.flow (known_view c.args.now) w.tree.now.block c.get-stmts.result.now c.loop-i.i c.get-stmts.ensures (let e = c.loop-i-test.false in omega (arith, e)) c.loop-i.invariant.0

-- ---- a block

pub Walk::in_block-loop-i-init : goal.Walk::in_block-loop-i-init
Walk::in_block-loop-i-init t c =
    record {
      meant = going_on (known_view c.args.now);
      walks = nothing_walked c.args.self.now c.args.trail.now c.going_on-flow.result (going_on (known_view c.args.now)) c.going_on-flow.ensures;
      rest = refl;
    }

pub Walk::in_block-in_nth-requires : goal.Walk::in_block-in_nth-requires
Walk::in_block-in_nth-requires t c =
    let w = c.args.self.now in
    let words : Stmt → ℕ = λ x. length (statement_words (stmt_view w.source.now x)) in
    let less = stmt_within w.source.now c.args.block.now c.get-stmts.result.now c.get-stmts.ensures c.loop-i.i c.index-stmts-i.result c.loop-i-test.true in (
      lower_step w.left (all_words (project_of w.question)) _ (length (block_words (block_view w.source.now c.args.block.now))) 5 6 t (subst (λ x. words x ≤ length (block_words (block_view w.source.now c.args.block.now))) (sym c.index-stmts-i.is) less) (omega arith) (sym c.decreases),
      (
        c.requires.walks,
        subst (λ x. AreRead (statement_words (stmt_view w.source.now x))) (sym c.index-stmts-i.is)
            (stmt_read w.source.now c.args.block.now c.get-stmts.result.now c.get-stmts.ensures c.loop-i.i c.index-stmts-i.result c.loop-i-test.true c.requires.good),
      ),
    )

pub Walk::in_block-loop-i-preserved : goal.Walk::in_block-loop-i-preserved
Walk::in_block-loop-i-preserved t c =
    let w = c.args.self.now in
    block_turn w c.args.trail.now c.loop-i.trail c.in_nth.new.trail c.loop-i.flow c.in_ok-next.next c.in_ok-flow.flow (known_view c.args.now) c.get-stmts.result.now c.loop-i.i c.index-stmts-i.result c.loop-i.invariant c.loop-i-test.true
    (subst (λ x. Walks w c.loop-i.trail c.in_nth.new.trail c.in_ok-next.next (statement_flow w (child (here w c.loop-i.trail) c.loop-i.i) (stmt_view w.source.now x) (known_view c.loop-i.flow.now))) c.index-stmts-i.is
    (subst (λ k. Walks w c.loop-i.trail c.in_nth.new.trail c.in_ok-next.next (statement_flow w (child (here w c.loop-i.trail) c.loop-i.i) (stmt_view w.source.now c.index-stmts-i.result) (known_view k))) c.take-now.ensures.value c.in_ok-next.ensures))
    c.in_ok-flow.ensures

pub Walk::in_block-returns : goal.Walk::in_block-returns
Walk::in_block-returns t c =
    block_ended c.args.self.now c.args.trail.now c.loop-i.trail c.loop-i.flow (known_view c.args.now) c.args.block.now c.get-stmts.result.now c.loop-i.i c.get-stmts.ensures (let e = c.loop-i-test.false in omega (arith, e)) c.loop-i.invariant

-- ---- one block, one statement

pub Walk::in_child-in_block-requires : goal.Walk::in_child-in_block-requires
Walk::in_child-in_block-requires t c =
    let w = c.args.self.now in
    let words = length (block_words (block_view w.source.now c.args.block.now)) in
    (lower_step w.left (all_words (project_of w.question)) words words 6 7 t (omega arith) (omega arith) (sym c.decreases), (c.requires.walks, c.requires.good))

pub Walk::in_nth-in_stmt-requires : goal.Walk::in_nth-in_stmt-requires
Walk::in_nth-in_stmt-requires t c =
    let w = c.args.self.now in
    let words = length (statement_words (stmt_view w.source.now c.args.stmt.now)) in
    (lower_step w.left (all_words (project_of w.question)) words words 4 5 t (omega arith) (omega arith) (sym c.decreases), (c.requires.walks, c.requires.good))

-- ---- what a call does

pub Walk::in_entered-in_file-requires : goal.Walk::in_entered-in_file-requires
Walk::in_entered-in_file-requires t c =
    let w = c.args.self.now in
    (lower_step w.left (all_words (project_of w.question)) 0 0 0 1 t (omega arith) (omega arith) (sym c.decreases), c.requires.whole)

pub Walk::in_each-in_entered-requires : goal.Walk::in_each-in_entered-requires
Walk::in_each-in_entered-requires t c =
    let w = c.args.self.now in
    (lower_step w.left (all_words (project_of w.question)) 0 0 1 2 t (omega arith) (omega arith) (sym c.decreases), c.requires)

pub Walk::after_effect-in_entered-requires : goal.Walk::after_effect-in_entered-requires
Walk::after_effect-in_entered-requires t c =
    let w = c.args.self.now in
    (lower_step w.left (all_words (project_of w.question)) 0 0 1 3 t (omega arith) (omega arith) (sym c.decreases), c.requires)

pub Walk::after_effect-in_each-requires : goal.Walk::after_effect-in_each-requires
Walk::after_effect-in_each-requires t c =
    let w = c.args.self.now in
    (lower_step w.left (all_words (project_of w.question)) 0 0 2 3 t (omega arith) (omega arith) (sym c.decreases), c.requires)

pub Walk::in_each-loop-i-init : goal.Walk::in_each-loop-i-init
Walk::in_each-loop-i-init t c =
    record {
      meant = going_on (known_view c.args.now);
      walks = nothing_walked c.args.self.now c.args.trail.now c.going_on-flow.result (going_on (known_view c.args.now)) c.going_on-flow.ensures;
      rest = refl;
    }

pub Walk::in_each-loop-i-preserved : goal.Walk::in_each-loop-i-preserved
Walk::in_each-loop-i-preserved t c =
    let w = c.args.self.now in
    each_turn w c.args.trail.now c.loop-i.trail c.in_entered.new.trail c.loop-i.flow c.in_ok-next.next c.in_ok-flow.flow (known_view c.args.now) c.args.files.now c.loop-i.i 0 c.loop-i.invariant c.loop-i-test.true
    (subst (λ k. Walks w c.loop-i.trail c.in_entered.new.trail c.in_ok-next.next (entered_flow w (get_or c.args.files.now c.loop-i.i 0) true (known_view k))) c.take-now.ensures.value c.in_ok-next.ensures)
    c.in_ok-flow.ensures

pub Walk::in_each-returns : goal.Walk::in_each-returns
Walk::in_each-returns t c =
    each_ended c.args.self.now c.args.trail.now c.loop-i.trail c.loop-i.flow (known_view c.args.now) c.args.files.now c.loop-i.i (let e = c.loop-i-test.false in omega (arith, e)) c.loop-i.invariant

pub Walk::in_evaluated-after_effect-requires : goal.Walk::in_evaluated-after_effect-requires
Walk::in_evaluated-after_effect-requires t c =
    let w = c.args.self.now in
    let words = length (expression_words (expr_view w.source.now c.args.value.now)) in
    let is = ap (λ e. length (expression_words (expr_view w.source.now e))) c.in-Call.is ∙ ap (λ e. length (expression_words e)) (call_view w.source.now c.in-Call.span c.in-Call.name c.in-Call.arguments) in
    let some : 0 < words = omega (arith, is) in
    (inner_step w.left (all_words (project_of w.question)) 0 words 3 2 t some (omega arith) (sym c.decreases), c.requires.walks)

pub Walk::in_iteration-in_loop-requires : goal.Walk::in_iteration-in_loop-requires
Walk::in_iteration-in_loop-requires t c =
    let w = c.args.self.now in
    let words = suc (length (block_words (block_view w.source.now c.args.body.now))) in
    (lower_step w.left (all_words (project_of w.question)) words words 2 3 t (omega arith) (omega arith) (sym c.decreases), (c.requires.walks, c.requires.body))

pub Walk::in_loop-in_turn-requires : goal.Walk::in_loop-in_turn-requires
Walk::in_loop-in_turn-requires t c =
    let w = c.args.self.now in
    let words = suc (length (block_words (block_view w.source.now c.args.body.now))) in
    (lower_step w.left (all_words (project_of w.question)) words words 0 2 t (omega arith) (omega arith) (sym c.decreases), (c.requires.walks, c.requires.good))

pub Walk::in_loop-ask_in_turn-requires : goal.Walk::in_loop-ask_in_turn-requires
Walk::in_loop-ask_in_turn-requires t c =
    let w = c.args.self.now in
    let words = suc (length (block_words (block_view w.source.now c.args.body.now))) in
    (lower_step w.left (all_words (project_of w.question)) words words 1 2 t (omega arith) (omega arith) (sym c.decreases), (c.requires.walks, c.requires.good))

pub Walk::ask_in_turn-in_turn-requires : goal.Walk::ask_in_turn-in_turn-requires
Walk::ask_in_turn-in_turn-requires t c =
    let w = c.args.self.now in
    let words = suc (length (block_words (block_view w.source.now c.args.body.now))) in
    (lower_step w.left (all_words (project_of w.question)) words words 0 1 t (omega arith) (omega arith) (sym c.decreases), (c.requires.walks, c.requires.good))

pub Walk::in_turn-in_child-requires : goal.Walk::in_turn-in_child-requires
Walk::in_turn-in_child-requires t c =
    let w = c.args.self.now in
    let words = length (block_words (block_view w.source.now c.args.body.now)) in
    let less : words < suc words = omega arith in
    (inner_step w.left (all_words (project_of w.question)) words (suc words) 7 0 t less (omega arith) (sym c.decreases), (record { whole = c.requires.walks.whole; named = c.requires.walks.named; spanned = c.requires.walks.spanned }, c.requires.good))

-- ---- the block of a file

pub Question::in_file-in_tree-requires : goal.Question::in_file-in_tree-requires
Question::in_file-in_tree-requires t c =
    let q = c.args.self.now in
    let e = c.if-file-self.false in
    let z = c.if-left-eq0.false in
    let tree = get_or q.trees.now c.args.file c.index-self-file.result in
    let lt : c.args.file < length q.trees.now = omega (arith, e) in
    let some : 0 < c.args.left = omega (arith, z) in (
      file_step c.args.left (all_words (project_of q)) (length (block_words (block_view c.bytes.result.now tree.block))) t some
          (block_within q c.args.file c.index-self-file.result lt c.requires c.bytes.result.now tree c.bytes.ensures refl) (sym c.decreases),
      (
        record {
          whole = c.requires;
          named = (file_named q c.args.file c.index-self-file.result lt c.requires c.name.result.now c.name.ensures).1;
          spanned = spanned_by q c.args.file c.index-self-file.result lt c.requires c.bytes.result.now tree c.bytes.ensures refl;
        },
        block_read q c.args.file c.index-self-file.result lt c.requires c.bytes.result.now tree c.bytes.ensures refl,
      ),
    )

pub Question::in_file-returns : goal.Question::in_file-returns
Question::in_file-returns t c =
    let q = c.args.self.now in
    let e = c.if-file-self.false in
    let z = c.if-left-eq0.false in
    let tree = get_or q.trees.now c.args.file c.index-self-file.result in
    let lt : c.args.file < length q.trees.now = omega (arith, e) in
    let some : 0 < c.args.left = omega (arith, z) in
    let k = known_view c.args.now in
    let walked = c.in_ok-flow.ensures in
    let meant = file_walked q c.args.file c.index-self-file.result lt c.requires c.args.left c.bytes.result.now tree c.name.result.now c.new.result.items k some c.bytes.ensures refl
    (file_named q c.args.file c.index-self-file.result lt c.requires c.name.result.now c.name.ensures).0 c.new.ensures.items in
    moved walked.flows c.take.ensures (sym c.take-2.ensures) meant

-- ---- a selection

pub Walk::in_branch-in_child-requires : goal.Walk::in_branch-in_child-requires
Walk::in_branch-in_child-requires t c =
    let w = c.args.self.now in
    let block = branch_block w.source.now c.args.branch.now in
    let words = length (block_words (block_view w.source.now c.args.branch.now.block)) in
    let less : words < suc (length (block_words (branch_view w.source.now c.args.branch.now).1)) = let same = ap (λ b. length (block_words b)) block in omega (arith, same) in (
      inner_step w.left (all_words (project_of w.question)) words (suc (length (block_words (branch_view w.source.now c.args.branch.now).1))) 7 0 t less (omega arith) (sym c.decreases),
      (c.requires.walks, subst (λ b. AreRead (block_words b)) block c.requires.block),
    )

pub Walk::in_branch-returns : goal.Walk::in_branch-returns
Walk::in_branch-returns t c = λ start before chooses.
    let w = c.args.self.now in
    IfOk-weaker c.with_block.result _ _
    (λ after joins. branch_walked w start c.args.trail.now c.in_expr.new.trail c.in_child.new.trail c.args.chosen c.in_ok-chosen.chosen after c.in_ok-condition.condition c.in_ok-flow.flow
    (known_view c.in_ok-now.now) before (2 * c.args.number) c.args.branch.now chooses c.in_ok-condition.ensures c.in_ok-chosen.ensures c.in_ok-now.ensures c.in_ok-flow.ensures joins)
    c.with_block.ensures

pub Walk::in_selection-loop-i-init : goal.Walk::in_selection-loop-i-init
Walk::in_selection-loop-i-init t c =
    record {
      meant = no_branch (known_view c.args.now);
      chooses = record {
        taken = nothing_walked c.args.self.now c.args.trail.now c.going_on.result (going_on None) c.going_on.ensures;
        left = refl;
      };
      rest = refl;
    }

pub Walk::in_selection-in_branch-requires : goal.Walk::in_selection-in_branch-requires
Walk::in_selection-in_branch-requires t c =
    let w = c.args.self.now in
    let bs = c.args.branches.now in
    let b = c.index-branches-i.result in
    let block_of : Branch → ℕ = λ x. suc (length (block_words (branch_view w.source.now x).1)) in
    let whole = length (branches_words (branches_of (branches_view w.source.now bs)) WordIf) + length (otherwise_words (else_view w.source.now c.args.otherwise.now)) in
    let one = branch_less w.source.now b bs WordIf c.loop-i.i c.loop-i-test.true in
    let few = branches_long w.source.now b bs WordIf in
    let fits = c.requires.branches.fits in
    let less : block_of (get_or bs c.loop-i.i b) ≤ whole = omega (arith, one) in
    let good = branch_good w.source.now b bs WordIf c.loop-i.i c.loop-i-test.true c.requires.branches.good in
    let small : c.loop-i.i < 2 ^ 63 = let within = c.loop-i-test.true in omega (arith, few, fits, within) in
    let condition_few = condition_fits w.source.now bs c.loop-i.i b (2 ^ 64) c.loop-i-test.true fits in
    let block_fits : length (block_words (branch_view w.source.now (get_or bs c.loop-i.i b)).1) < 2 ^ 64 = omega (arith, one, fits) in (
      lower_step w.left (all_words (project_of w.question)) (block_of b) whole 0 2 t (subst (λ x. block_of x ≤ whole) (sym c.index-branches-i.is) less) (omega arith) (sym c.decreases),
      (
        c.requires.walks,
        (
          small,
          (
            subst (λ x. AreRead (expression_words (branch_view w.source.now x).0)) (sym c.index-branches-i.is) (record { good = good.0; fits = condition_few }),
            subst (λ x. AreRead (block_words (branch_view w.source.now x).1)) (sym c.index-branches-i.is) (record { good = good.1; fits = block_fits }),
          ),
        ),
      ),
    )

pub Walk::in_selection-loop-i-preserved : goal.Walk::in_selection-loop-i-preserved
Walk::in_selection-loop-i-preserved t c =
    let w = c.args.self.now in
    let turn = c.loop-i.invariant in
    let chooses = c.in_ok-chosen.ensures c.args.trail.now turn.meant turn.chooses in
    selection_turn w c.args.trail.now c.loop-i.trail c.in_branch.new.trail c.loop-i.chosen c.in_ok-chosen.chosen (known_view c.args.now) c.args.branches.now c.loop-i.i c.index-branches-i.result turn c.loop-i-test.true
    (subst (λ x. Chooses w c.args.trail.now c.in_branch.new.trail c.in_ok-chosen.chosen (branch_chosen w (here w c.loop-i.trail) (2 * c.loop-i.i) (branch_view w.source.now x) turn.meant)) c.index-branches-i.is chooses)

pub Walk::in_selection-in_child-requires : goal.Walk::in_selection-in_child-requires
Walk::in_selection-in_child-requires t c =
    let w = c.args.self.now in
    let block = c.in-Some.block in
    let words = length (block_words (block_view w.source.now block)) in
    let front = length (branches_words (branches_of (branches_view w.source.now c.args.branches.now)) WordIf) in
    let whole = front + length (otherwise_words (else_view w.source.now c.args.otherwise.now)) in
    let is = ap (λ o. length (otherwise_words (else_view w.source.now o))) c.in-Some.is in
    let less : words < whole = omega (arith, is) in (
      inner_step w.left (all_words (project_of w.question)) words whole 7 2 t less (omega arith) (sym c.decreases),
      (c.requires.walks, else_read w.source.now block (subst (λ o. AreRead (otherwise_words (else_view w.source.now o))) c.in-Some.is c.requires.otherwise)),
    )

pub Walk::in_selection-returns : goal.Walk::in_selection-returns
Walk::in_selection-returns t c =
    let w = c.args.self.now in
    let bs = c.args.branches.now in
    let k = known_view c.args.now in
    let left = known_view c.loop-i.chosen.left in
    let past : length bs ≤ c.loop-i.i = let e = c.loop-i-test.false in omega (arith, e) in
    let chooses = selection_ended w c.args.trail.now c.loop-i.trail c.loop-i.chosen k bs c.loop-i.i past c.loop-i.invariant in
    let LastWalks : Trail → code.Flow → Type 0 = λ now last. Walks w c.loop-i.trail now last (otherwise_flow w (here w c.loop-i.trail) (2 * length bs) (else_view w.source.now c.args.otherwise.now) left) in
    let walked : LastWalks c.match-otherwise.trail c.match-otherwise.last = elim c.match-otherwise.branch [
      | Walk::in_selection-in-Some+in_ok-last-in-Some it ↦
          subst (λ now. LastWalks now c.match-otherwise.last) (sym it.trail-is)
          (subst (LastWalks it.in_child.new.trail) (sym it.last-is)
          (subst (λ o. Walks w c.loop-i.trail it.in_child.new.trail it.in_ok-last-in-Some.last (otherwise_flow w (here w c.loop-i.trail) (2 * length bs) (else_view w.source.now o) left)) (sym it.in-Some.is) it.in_ok-last-in-Some.ensures))
      | Walk::in_selection-in-None it ↦
          subst (λ now. LastWalks now c.match-otherwise.last) (sym it.trail-is)
          (subst (LastWalks c.loop-i.trail) (sym it.last-is)
          (subst (λ o. Walks w c.loop-i.trail c.loop-i.trail it.going_on-last.result (otherwise_flow w (here w c.loop-i.trail) (2 * length bs) (else_view w.source.now o) left)) (sym it.in-None.is)
          (nothing_walked w c.loop-i.trail it.going_on-last.result (going_on left) it.going_on-last.ensures)))
    ] in
    IfOk-weaker c.either.result _ _
    (λ f joins. selection_walked w c.args.trail.now c.loop-i.trail c.match-otherwise.trail c.loop-i.chosen c.match-otherwise.last f k bs (else_view w.source.now c.args.otherwise.now) chooses walked joins)
    c.either.ensures

-- ---- the parts of a statement

pub Walk::in_stmt-in_evaluated-requires : goal.Walk::in_stmt-in_evaluated-requires
Walk::in_stmt-in_evaluated-requires t c =
    let w = c.args.self.now in
    let is = evaluated_is w.source.now c.args.stmt.now c.in-Expr.value c.in-Expr.is in
    let words = length (expression_words (expr_view w.source.now c.in-Expr.value)) in
    let whole = length (statement_words (stmt_view w.source.now c.args.stmt.now)) in
    let less : words ≤ whole = let same = ap (λ s. length (statement_words s)) is in omega (arith, same) in (
      lower_step w.left (all_words (project_of w.question)) words whole 2 4 t less (omega arith) (sym c.decreases),
      (c.requires.walks, subst (λ s. AreRead (statement_words s)) is c.requires.good),
    )

pub Walk::in_stmt-in_selection-requires : goal.Walk::in_stmt-in_selection-requires
Walk::in_stmt-in_selection-requires t c =
    let w = c.args.self.now in
    let source = w.source.now in
    let x = c.args.stmt.now in
    let s = c.in-If.span in
    let bs = c.in-If.branches in
    let o = c.in-If.otherwise in
    let front : List Branch → ℕ = λ cs. length (branches_words (branches_of (branches_view source cs)) WordIf) in
    let last = length (otherwise_words (else_view source o)) in
    let whole = length (statement_words (stmt_view source x)) in
    let within = selection_within source x s bs o c.in-If.is in (
      lower_step w.left (all_words (project_of w.question)) (front c.get.result.now + last) whole 2 4 t (subst (λ cs. front cs + last ≤ whole) (sym c.get.ensures) within) (omega arith) (sym c.decreases),
      (
        c.requires.walks,
        (
          subst (λ cs. AreRead (branches_words (branches_of (branches_view source cs)) WordIf)) (sym c.get.ensures) (branches_read source x s bs o c.in-If.is c.requires.good),
          last_read source x s bs o c.in-If.is c.requires.good,
        ),
      ),
    )

pub Walk::in_stmt-in_iteration-requires : goal.Walk::in_stmt-in_iteration-requires
Walk::in_stmt-in_iteration-requires t c =
    let w = c.args.self.now in
    let source = w.source.now in
    let x = c.args.stmt.now in
    let it = c.in-Foreach in
    let words = suc (length (block_words (block_view source it.body))) in
    let less = body_less source x it.span it.names it.items it.body it.is in (
      lower_step w.left (all_words (project_of w.question)) words (length (statement_words (stmt_view source x))) 3 4 t less (omega arith) (sym c.decreases),
      (
        c.requires.walks,
        (
          items_read source x it.span it.names it.items it.body it.is c.requires.good,
          body_read source x it.span it.names it.items it.body it.is c.requires.good,
        ),
      ),
    )

pub Walk::in_stmt-returns-in-Assign : goal.Walk::in_stmt-returns-in-Assign
Walk::in_stmt-returns-in-Assign t c =
    let w = c.args.self.now in
    let it = c.in-Assign in
    let is = assigned_is w.source.now c.args.stmt.now it.span it.name it.assignment it.value it.is in
    subst (λ s. IfOk c.in_assignment.result (λ f. Walks w c.args.trail.now c.in_assignment.new.trail f (statement_flow w (here w c.args.trail.now) s (known_view c.args.now)))) (sym is)
    (c.in_assignment.ensures it.span)

pub Walk::in_stmt-returns-in-Foreach : goal.Walk::in_stmt-returns-in-Foreach
Walk::in_stmt-returns-in-Foreach t c =
    let w = c.args.self.now in
    let it = c.in-Foreach in
    let names : List Span → Statement Span = λ ns. iteration it.span (names_at w.source.now ns) (expr_view w.source.now it.items) (block_view w.source.now it.body) in
    let is = ap (stmt_view w.source.now) it.is ∙ foreach_view w.source.now it.span it.names it.items it.body ∙ sym (ap names c.get-in-Foreach.ensures) in
    subst (λ s. IfOk c.in_iteration.result (λ f. Walks w c.args.trail.now c.in_iteration.new.trail f (statement_flow w (here w c.args.trail.now) s (known_view c.args.now)))) (sym is)
    (c.in_iteration.ensures it.span)

-- ---- an expression that is a statement

pub Walk::in_evaluated-in_arguments-requires : goal.Walk::in_evaluated-in_arguments-requires
Walk::in_evaluated-in_arguments-requires t c =
    record {
      read = c.requires.good;
      good = call_good c.args.self.now.source.now c.args.value.now c.in-Call.span c.in-Call.name c.in-Call.arguments c.in-Call.is c.requires.good.good;
    }

pub Walk::in_evaluated-returns-in_ok-next-in-Call : goal.Walk::in_evaluated-returns-in_ok-next-in-Call
Walk::in_evaluated-returns-in_ok-next-in-Call t c =
    let w = c.args.self.now in
    let k = known_view c.args.now in
    let q = child (here w c.args.trail.now) 0 in
    let called = call_with (text_at w.source.now c.in-Call.name) (list_view w.source.now c.in-Call.arguments) in
    let e = call c.in-Call.span (name_at w.source.now c.in-Call.name) (list_view w.source.now c.in-Call.arguments) in
    let is : expr_view w.source.now c.args.value.now ≡ e = ap (expr_view w.source.now) c.in-Call.is ∙ call_view w.source.now c.in-Call.span c.in-Call.name c.in-Call.arguments in
    let F = arguments_flow w q e (list_view w.source.now c.in-Call.arguments) k in
    let first : Walks w c.args.trail.now c.in_arguments.new.trail c.in_ok-flow-in-Call.flow F =
    subst (λ x. Walks w c.args.trail.now c.in_arguments.new.trail c.in_ok-flow-in-Call.flow (arguments_flow w q x (list_view w.source.now c.in-Call.arguments) k)) is c.in_ok-flow-in-Call.ensures in
    let there : c.as_slice.result.now ≡ c.args.trail.now.path.items = c.as_slice.ensures.value ∙ first.back in
    let effect : c.in_ok-effect-in-Call.effect ≡ call_effect w (placed q called) = c.in_ok-effect-in-Call.ensures ∙ ap (λ path. call_effect w (placed (child (place w.file path) 0) called)) there in
    let second : Walks w c.in_arguments.new.trail c.after_effect.new.trail c.in_ok-next-in-Call.next (effect_flow w (call_effect w (placed q called)) F.now) =
    subst (λ f. Walks w c.in_arguments.new.trail c.after_effect.new.trail c.in_ok-next-in-Call.next (effect_flow w f F.now)) effect
    (subst (λ n. Walks w c.in_arguments.new.trail c.after_effect.new.trail c.in_ok-next-in-Call.next (effect_flow w c.in_ok-effect-in-Call.effect n)) (ap known_view c.take-now.ensures.value ∙ first.flows.now) c.in_ok-next-in-Call.ensures) in
    IfOk-weaker c.then.result _ _
    (λ f joins. subst (λ x. Walks w c.args.trail.now c.after_effect.new.trail f (evaluated_flow w q x k)) (sym is)
    (both_walked w c.args.trail.now c.in_arguments.new.trail c.after_effect.new.trail c.in_ok-flow-in-Call.flow c.in_ok-next-in-Call.next f F (effect_flow w (call_effect w (placed q called)) F.now) first second joins))
    c.then.ensures
