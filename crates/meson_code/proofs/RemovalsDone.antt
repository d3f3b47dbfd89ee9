-- Removed statements leave a project: each file has no more bytes than before, and each tree nests no deeper.
use Rattle.std.proofs.Common.{◌≡◌, ℕ, zero, suc, ◌+◌, ◌<◌, ◌≤◌, List, [], ◌∷◌, ◌++◌, length, get_or, Option, Some, None, refl, sym, ap, ◌∙◌, subst, arith, length-append}
use Rattle.std.specs.Prelude.{option_and_then, unwrap_or}
use Rattle.std.proofs.lemmas.List.Elements.{All-cons, All-head, All-nil, All-tail}
use Rattle.meson_lex.specs.Items.{Lexeme, joined}
use Rattle.meson_lex.proofs.Seams.{joined-append}
use Rattle.meson_splice.specs.declared.file_set.File.{File}
use Rattle.meson_splice.specs.Files.{bytes_at, with_bytes}
use Rattle.meson_layout.specs.declared.primitive.BlankLines.{BlankLines}
use Rattle.meson_lex.specs.declared.kinds.Span.{Span}
use Rattle.meson_syntax.specs.Grammar.{file_depth}
use Rattle.meson_syntax.specs.Reads.{IsSpanned, max_depth, max_len, of_files}
use Rattle.meson_syntax.specs.Tree as tree
use Rattle.meson_syntax.specs.Tree.{Plain, erase}
use Rattle.meson_syntax.specs.View.{view}
use Rattle.meson_syntax.specs.declared.tree.Parsed.{Parsed}
use Rattle.meson_syntax.proofs.parsing.WithinFiles.{other_limits}
use Rattle.meson_syntax.proofs.parsing.Steps.{some-injective}
use Rattle.meson_syntax.proofs.paths.Reaching.{and-then-some, map-some}
use Rattle.meson_edit.specs.Edits.{Edit, RemoveStatement, edited}
use Rattle.meson_edit.specs.Kept.{EditKeeps, KeepsAround}
use Rattle.meson_calls.specs.Loading.{AreParsed, IsProject, Loaded, project}
use Rattle.meson_steps.specs.declared.step.ListStep.{ListStep}
use Rattle.meson_steps.specs.declared.work.Work.{Work}
use Rattle.meson_steps.specs.Keeping.{StepKeeps, StepsKeep}
use Rattle.meson_steps.specs.Keeping as keeping
use Rattle.meson_steps.specs.ListSteps.{AreBare}
use Rattle.meson_steps.specs.ResultLimits.{AreShallow, AreSmall, plain_trees}
use Rattle.meson_steps.specs.Steps.{Step, all_stepped, changed_at, stepped}
use Rattle.meson_steps.specs.Working.{IsUnderWay, Reached, so_far}
use Rattle.meson_steps.proofs.Keeping.{making_keeps}
use Rattle.meson_steps.proofs.OneMoreStep.{all_after}
use Rattle.meson_steps.proofs.OtherBytes.{as_many_plain, plain_at}
use Rattle.meson_steps.proofs.PlainTrees.{parsed_shallow}
use Rattle.meson_targets.specs.TargetEdits.{StatementPlace}
use Rattle.meson_targets.proofs.StatementsDoable.{gone}
use Rattle.meson_targets.proofs.TargetsDoable.{statement_doable}
use Rattle.meson_code.specs.AnchorLaws.{IsStatementAt}
use Rattle.meson_code.specs.Removal.{blank_lines, removal_step}
use Rattle.meson_code.specs.Unused.{trees_without}
use Rattle.meson_code.specs.inside.Removing.{AreRemovals, HasRemoved, IsRemoval}

-- ---- bytes

-- the number of bytes of some items
abbrev size : List Lexeme → ℕ
size xs = length (joined xs)

both : (xs ys : List Lexeme) → size (xs ++ ys) ≡ size xs + size ys
both xs ys = ap length (joined-append xs ys) ∙ length-append (joined xs) (joined ys)

less_around : (blank : BlankLines) (bytes text : List ℕ) (items : List Lexeme) (s : Span) → joined items ≡ bytes → KeepsAround blank bytes text items s → length text ≤ length bytes
less_around blank bytes text items s joins k =
    let now = ap length k.new ∙ length-append (joined k.front) (joined k.back) in
    let a = both k.front (k.before ++ (k.own ++ (k.behind ++ k.back))) in
    let b = both k.before (k.own ++ (k.behind ++ k.back)) in
    let c = both k.own (k.behind ++ k.back) in
    let d = both k.behind k.back in
    let whole = ap size k.old in
    let was = ap length joins in
    omega (arith, now, a, b, c, d, whole, was)

less : (e : Edit) (bytes text : List ℕ) (f : tree.File Span) (items : List Lexeme) → IsRemoval e → joined items ≡ bytes → EditKeeps bytes text f items e → length text ≤ length bytes
less (RemoveStatement blank path n) bytes text f items is joins keeps = less_around blank bytes text items keeps.0 joins keeps.2
less _ bytes text f items is joins keeps = absurd is

small_at : (files : List File) (i : ℕ) → AreSmall files → length (bytes_at i files) ≤ max_len
small_at [] i small = omega arith
small_at (f ∷ files) zero small = All-head (λ (g : File). length g.bytes ≤ max_len) f files small
small_at (f ∷ files) (suc i) small = small_at files i (All-tail (λ (g : File). length g.bytes ≤ max_len) f files small)

small_with : (files : List File) (i : ℕ) (text : List ℕ) → length text ≤ length (bytes_at i files) → AreSmall files → AreSmall (with_bytes i text files)
small_with [] i text fits small = small
small_with (f ∷ files) zero text fits small =
    let P : File → Type 0 = λ g. length g.bytes ≤ max_len in
    let here = small_at (f ∷ files) zero small in
    All-cons P (record f { bytes = text }) files (omega (arith, fits, here)) (All-tail P f files small)
small_with (f ∷ files) (suc i) text fits small =
    let P : File → Type 0 = λ g. length g.bytes ≤ max_len in
    All-cons P f (with_bytes i text files) (All-head P f files small) (small_with files i text fits (All-tail P f files small))

kept_small : (files : List File) (steps : List Step) (last : List File) → StepsKeep files steps last → AreRemovals steps → AreSmall files → AreSmall last
kept_small files steps last (keeping.none fs) are small = small
kept_small files steps last (keeping.step fs end s more text keeps rest) are small =
    kept_small (with_bytes s.file text fs) more end rest are.1
    (small_with fs s.file text (less s.edit (bytes_at s.file fs) text keeps.file keeps.items are.0 keeps.are_items.joins keeps.keeps) small)

parsed_small : (files : List File) (parsed : List Parsed) → AreParsed files parsed → AreSmall files
parsed_small [] [] are = All-nil (λ (g : File). length g.bytes ≤ max_len)
parsed_small [] (t ∷ parsed) are = absurd are
parsed_small (f ∷ files) [] are = absurd are
parsed_small (f ∷ files) (t ∷ parsed) are =
    let P : File → Type 0 = λ g. length g.bytes ≤ max_len in
    All-cons P f files are.0.reads.source.fits (parsed_small files parsed are.1)

-- ---- depth

abbrev IsShallow : Plain → Type 0
IsShallow t = file_depth t ≤ max_depth

one_shallow : (e : Edit) (t now : Plain) → IsRemoval e → edited e t ≡ Some now → IsShallow t → IsShallow now
one_shallow (RemoveStatement blank path n) t now is made shallow = let g = gone t now blank path n made in let deep = g.depth in omega (arith, deep, shallow)
one_shallow _ t now is made shallow = absurd is

step_shallow : (i : ℕ) (e : Edit) (trees after : List Plain) → IsRemoval e → changed_at i (edited e) trees ≡ Some after → AreShallow trees → AreShallow after
step_shallow i e [] after is made shallow = absurd cc
step_shallow zero e (t ∷ ts) after is made shallow =
    let o = map-some (λ u. u ∷ ts) (edited e t) after made in
    subst AreShallow o.2 (All-cons IsShallow o.0 ts (one_shallow e t o.0 is o.1 (All-head IsShallow t ts shallow)) (All-tail IsShallow t ts shallow))
step_shallow (suc i) e (t ∷ ts) after is made shallow =
    let o = map-some (λ us. t ∷ us) (changed_at i (edited e) ts) after made in
    subst AreShallow o.2 (All-cons IsShallow t o.0 (All-head IsShallow t ts shallow) (step_shallow i e ts o.0 is o.1 (All-tail IsShallow t ts shallow)))

kept_shallow : (steps : List Step) (trees after : List Plain) → AreRemovals steps → all_stepped steps trees ≡ Some after → AreShallow trees → AreShallow after
kept_shallow [] trees after are made shallow = subst AreShallow (some-injective _ _ made) shallow
kept_shallow (s ∷ steps) trees after are made shallow =
    let o = and-then-some (all_stepped steps) (stepped s trees) after made in
    kept_shallow steps o.0 after are.1 o.2 (step_shallow s.file s.edit trees o.0 are.0 o.1 shallow)

-- ---- a project

parsed_each : (files : List File) (trees : List Parsed) → length trees ≡ length files
    → ((k : ℕ) (d : Parsed) → k < length files → IsSpanned (bytes_at k files) (view (bytes_at k files) (get_or trees k d))) → AreParsed files trees
parsed_each [] [] many each = tt
parsed_each [] (t ∷ trees) many each = absurd (omega (arith, many))
parsed_each (f ∷ files) [] many each = absurd (omega (arith, many))
parsed_each (f ∷ files) (t ∷ trees) many each =
    let first : 0 < length (f ∷ files) = omega arith in
    let alike : length trees ≡ length files = omega (arith, many) in
    (each 0 t first, parsed_each files trees alike (λ k d within. let next : suc k < length (f ∷ files) = omega (arith, within) in each (suc k) d next))

module _ (old : Loaded) (before : List Step) (w : Work) (h : HasRemoved old before w) where
  small : AreSmall w.files
  small =
      let m = h.reached.made in
      kept_small old.files before w.files (making_keeps old.files before w.splices.items w.files m.bytes m.are_done) h.removals (parsed_small old.files old.parsed h.whole.parsed)

  shallow : AreShallow (plain_trees (so_far w))
  shallow = kept_shallow before (plain_trees old) (plain_trees (so_far w)) h.removals h.reached.made.are_trees (parsed_shallow old.files old.parsed h.whole.parsed)

  pub removed_project : IsProject (so_far w)
  removed_project = record {
    few = h.reached.few;
    named = h.reached.named;
    parsed = parsed_each w.files w.trees.items h.reached.known.as_many (λ k d within.
        let many = h.reached.known.as_many in
        let there : k < length w.trees.items = omega (arith, many, within) in
        let bytes = bytes_at k w.files in
        let s = h.reached.known.each k d within in
        let p = erase (view bytes (get_or w.trees.items k d)) in
        let inside : k < length (plain_trees (so_far w)) = omega (arith, as_many_plain w.files w.trees.items many, there) in
        let low = subst (λ t. file_depth t ≤ max_depth) (plain_at w.files w.trees.items k d p many there) (shallow k p inside) in
        other_limits _ of_files bytes (view bytes (get_or w.trees.items k d)) s (record { fits = small_at w.files k small; utf8 = s.reads.source.utf8; no_mark = s.reads.source.no_mark }) low);
  }

  -- ---- one more

  module _ (a : StatementPlace) (there : IsStatementAt (so_far w) a) where
    abbrev step : Step
    step = removal_step (project (so_far w)) a

    abbrev here : List Plain
    here = plain_trees (so_far w)

    more_removals : (xs : List Step) → AreRemovals xs → AreRemovals (xs ++ step ∷ [])
    more_removals [] are = (tt, tt)
    more_removals (x ∷ xs) are = (are.0, more_removals xs are.1)

    pub next_under_way : (code : List ListStep) → AreBare (step ∷ []) code → IsUnderWay old (before ++ step ∷ []) code w
    next_under_way code bare = record {
      before = before;
      rest = step ∷ [];
      joined = refl;
      bare = bare;
      reached = record {
        made = h.reached.made;
        doable = statement_doable (so_far w) removed_project (blank_lines (project (so_far w)) a) a there.0 there.1;
        known = h.reached.known;
        distinct = h.reached.distinct;
        few = h.reached.few;
        named = h.reached.named;
      };
    }

    pub next_removed : (new : Work) → Reached old (before ++ step ∷ []) [] new → HasRemoved old (before ++ step ∷ []) new
    next_removed new r = record { whole = h.whole; removals = more_removals before h.removals; reached = r }

    only : (o : Option (List Plain)) → option_and_then (all_stepped []) o ≡ o
    only None = refl
    only (Some ts) = refl

    pub trees_next : (new : Work) → Reached old (before ++ step ∷ []) [] new → trees_without a here ≡ plain_trees (so_far new)
    trees_next new r =
        let on = sym (ap (option_and_then (all_stepped (step ∷ []))) h.reached.made.are_trees) ∙ sym (all_after before (step ∷ []) (plain_trees old)) ∙ r.made.are_trees in
        ap (λ o. unwrap_or o here) (sym (only (stepped step here)) ∙ on)
