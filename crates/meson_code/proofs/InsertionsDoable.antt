-- The step that inserts code may be done.
use Rattle.std.proofs.Common.{◌≡◌, ℕ, zero, suc, ◌-◌, ◌<◌, ◌≤◌, true, List, [], ◌∷◌, length, Option, Some, None, Result, Ok, Err, refl, sym, ap, ◌∙◌, subst, arith, leb-true}
use Rattle.std.specs.Prelude.{max, nat_le, option_map, option_and_then}
use Rattle.std.specs.Str.{IsUtf8}
use Rattle.meson_lex.specs.declared.kinds.Span.{Span}
use Rattle.meson_splice.specs.declared.file_set.File.{File}
use Rattle.meson_splice.specs.Files.{bytes_at, position_of_file}
use Rattle.meson_splice.proofs.Sets.{found-within}
use Rattle.meson_syntax.specs.declared.tree.Parsed.{Parsed}
use Rattle.meson_syntax.specs.Grammar.{LevelFile, LevelStatements, file_depth, block_depth, statements_depth}
use Rattle.meson_syntax.specs.Paths.{nth}
use Rattle.meson_syntax.specs.Reads.{IsSpanned}
use Rattle.meson_syntax.specs.Tree as tree
use Rattle.meson_syntax.specs.Tree.{Block, block, file, Nowhere, Plain, Statement, Statements, no_statements, statement, statement_list, statements_of, erase, erase_block, erase_statement, erase_statements}
use Rattle.meson_syntax.proofs.parsing.CompleteFiles.{list-of-statements}
use Rattle.meson_syntax.proofs.parsing.Steps.{some-injective}
use Rattle.meson_syntax.proofs.paths.Reaching.{and-then-some, map-some}
use Rattle.meson_edit.specs.Blocks.{BlockAt, block_at, statement_in}
use Rattle.meson_edit.specs.Edits.{with_lines, with_more}
use Rattle.meson_edit.specs.ExchangedLines.{exchanged_in, file_statements, statements_in, with_statements}
use Rattle.meson_edit.specs.Places.{IsWrittenLines, span_of_statement}
use Rattle.meson_edit.specs.Standing.{statement_span}
use Rattle.meson_edit.proofs.lines.Depths.{rooms-suffice}
use Rattle.meson_edit.proofs.paths.Erased.{blocks-erase}
use Rattle.meson_edit.proofs.sequences.Lined.{lines-keep-levels}
use Rattle.meson_statements.specs.declared.places.Side.{Side}
use Rattle.meson_statements.specs.declared.places.Side.TheVariants as beside
use Rattle.meson_statements.specs.Code.{IsStatements}
use Rattle.meson_statements.specs.CodeTexts.{lexemes_of}
use Rattle.meson_statements.proofs.CodeTexts.{lexemes-are-items, trees-are-read}
use Rattle.meson_statements.specs.Places.{text_at}
use Rattle.meson_statements.proofs.Placed.{placed-lines, placed-utf8}
use Rattle.meson_splice.specs.Patch.{then_ok}
use Rattle.meson_calls.specs.Project.{place}
use Rattle.meson_calls.specs.declared.refusal.Refusal.{Refusal}
use Rattle.meson_calls.specs.Loading.{AreParsed, IsProject, Loaded, named_trees, project, views}
use Rattle.meson_calls.specs.Project.{BuildFile, nth_file}
use Rattle.meson_steps.specs.declared.command.CodePlace.{CodePlace}
use Rattle.meson_steps.specs.declared.command.CodePlace.TheVariants as code_place
use Rattle.meson_steps.specs.declared.step.LineSide.{LineSide}
use Rattle.meson_steps.specs.declared.step.LineSide.TheVariants as side
use Rattle.meson_steps.specs.declared.step.ListEdit.TheVariants as code_edit
use Rattle.meson_steps.specs.ListSteps.{AreDoable, MayStandBetween, none, bare, block_of_lines, side_of_lines as lines_side}
use Rattle.meson_steps.specs.ResultLimits.{plain_trees}
use Rattle.meson_steps.proofs.PlainTrees.{parsed_shallow, tree_there, trees_stand}
use Rattle.meson_steps.proofs.StepsDoable.{step_doable}
use Rattle.meson_steps.proofs.WithOne.{all_nth}
use Rattle.meson_targets.specs.TargetEdits.{StatementPlace, statement_there}
use Rattle.meson_places.specs.AssignedValues.{around}
use Rattle.meson_places.specs.Names.{numbered_file}
use Rattle.meson_places.proofs.AssignedDepth.{block_grows}
use Rattle.meson_code.specs.declared.insertion.FileLines.{FileLines}
use Rattle.meson_code.specs.Anchors.{the_anchor}
use Rattle.meson_code.specs.Insertion.{above_statement, below_statement, end_of_file, lines_at, tree_place, code_statements, has_room, side_in, side_of_lines, text_on, inserted_text, insertion_step, last_span}
use Rattle.meson_code.proofs.AnchorsFound.{anchors_are_there}

pub ok_then : {X Y : Type 0} (r : Result X Refusal) (f : X → Result Y Refusal) (y : Y) → then_ok r f ≡ Ok y → (x : X) × (r ≡ Ok x) × (f x ≡ Ok y)
ok_then (Ok x) f y is = (x, refl, is)
ok_then (Err e) f y is = absurd cc

-- ---- the files of a project

pub spanned_there : (files : List File) (parsed : List Parsed) (i : ℕ) (f : BuildFile Span) → AreParsed files parsed → nth_file (named_trees files (views files parsed)) i ≡ Some f → IsSpanned (bytes_at i files) f.tree
spanned_there [] [] i f are is = absurd cc
spanned_there [] (t ∷ parsed) i f are is = absurd are
spanned_there (x ∷ files) [] i f are is = absurd are
spanned_there (x ∷ files) (t ∷ parsed) zero f are is = subst (λ (g : BuildFile Span). IsSpanned x.bytes g.tree) (some-injective _ _ is) are.0
spanned_there (x ∷ files) (t ∷ parsed) (suc i) f are is = spanned_there files parsed i f are.1 is

tree_within : (files : List File) (parsed : List Parsed) (i : ℕ) → AreParsed files parsed → i < length files → (f : BuildFile Span) × (nth_file (named_trees files (views files parsed)) i ≡ Some f)
tree_within [] parsed i are within = absurd (omega (arith, within))
tree_within (x ∷ files) [] i are within = absurd are
tree_within (x ∷ files) (t ∷ parsed) zero are within = (_, refl)
tree_within (x ∷ files) (t ∷ parsed) (suc i) are within = tree_within files parsed i are.1 (omega (arith, within))

-- ---- where the lines are

nth-erased : (list : Statements Span) (n : ℕ) → nth (statement_list (erase_statements list)) n ≡ option_map erase_statement (nth (statement_list list) n)
nth-erased no_statements n = refl
nth-erased (statement s more) zero = refl
nth-erased (statement s more) (suc n) = nth-erased more n

pub in-erased : (b : Block Span) (n : ℕ) → statement_in (erase_block b) n ≡ option_map erase_statement (statement_in b n)
in-erased (block s list) n = nth-erased list n

-- The block in which the lines come, in the tree without spans, and the side of them in the file.
pub record Spot (l : Loaded) (lines : FileLines) (new : List (Statement Nowhere)) : Type 0 where
  pub build : BuildFile Span
  pub is_build : nth_file (project l) lines.block.file ≡ Some build
  pub place : BlockAt Nowhere
  pub is_place : block_at (erase build.tree) lines.block.path.steps ≡ Some place
  pub from : ℕ
  pub is_now : with_lines (tree_place lines.block.path.steps lines.side) new (erase build.tree) ≡ Some (place.back (exchanged_in from 0 new place.inside))
  pub at_ : Side
  pub is_side : side_in build.tree lines.block.path.steps lines.side ≡ Some at_
  pub is_path : block_of_lines (tree_place lines.block.path.steps lines.side) ≡ lines.block.path.steps

module _ (l : Loaded) (is : IsProject l) (new : List (Statement Nowhere)) where
  -- beside a statement
  record Beside (f : tree.File Span) (path : List ℕ) (n from : ℕ) : Type 0 where
    place : BlockAt Nowhere
    is_place : block_at (erase f) path ≡ Some place
    is_now : with_more path n from new (erase f) ≡ Some (place.back (exchanged_in from 0 new place.inside))
    span : Span
    is_span : span_of_statement f path n ≡ Some span

  beside_there : (f : tree.File Span) (path : List ℕ) (n from : ℕ) (s : Statement Span) → option_and_then (λ b. statement_in b.inside n) (block_at f path) ≡ Some s → Beside f path n from
  beside_there f path n from s there =
      let o = and-then-some (λ (b : BlockAt Span). statement_in b.inside n) (block_at f path) s there in
      let b = o.0 in
      let m = map-some (λ (q : BlockAt Nowhere). q.inside) (block_at (erase f) path) (erase_block b.inside) (blocks-erase f path ∙ ap (option_map (λ (b : BlockAt Span). erase_block b.inside)) o.1) in
      let q = m.0 in
      let bare : statement_in q.inside n ≡ Some (erase_statement s) = ap (λ c. statement_in c n) m.2 ∙ in-erased b.inside n ∙ ap (option_map erase_statement) o.2 in
      record {
        place = q;
        is_place = m.1;
        is_now = ap (option_and_then (λ (b : BlockAt Nowhere). option_map (λ s. b.back (exchanged_in from 0 new b.inside)) (statement_in b.inside n))) m.1
            ∙ ap (option_map (λ s. q.back (exchanged_in from 0 new q.inside))) bare;
        span = statement_span s;
        is_span = ap (option_map statement_span) there;
      }

  spot_above : (a : StatementPlace) (s : Statement Span) → statement_there (project l) a ≡ Some s → Spot l (above_statement a) new
  spot_above a s there =
      let o = and-then-some (λ (f : BuildFile Span). option_and_then (λ b. statement_in b.inside a.number) (block_at f.tree a.block.path.steps)) (nth_file (project l) a.block.file) s there in
      let b = beside_there o.0.tree a.block.path.steps a.number a.number s o.2 in
      record {
        build = o.0;
        is_build = o.1;
        place = b.place;
        is_place = b.is_place;
        from = a.number;
        is_now = b.is_now;
        at_ = beside.Above b.span;
        is_side = ap (option_map beside.Above) b.is_span;
        is_path = refl;
      }

  spot_below : (a : StatementPlace) (s : Statement Span) → statement_there (project l) a ≡ Some s → Spot l (below_statement a) new
  spot_below a s there =
      let o = and-then-some (λ (f : BuildFile Span). option_and_then (λ b. statement_in b.inside a.number) (block_at f.tree a.block.path.steps)) (nth_file (project l) a.block.file) s there in
      let b = beside_there o.0.tree a.block.path.steps a.number (suc a.number) s o.2 in
      record {
        build = o.0;
        is_build = o.1;
        place = b.place;
        is_place = b.is_place;
        from = suc a.number;
        is_now = b.is_now;
        at_ = beside.Below b.span;
        is_side = ap (option_map beside.Below) b.is_span;
        is_path = refl;
      }

  root_there : (f : tree.File Span) → (q : BlockAt Nowhere) × (block_at (erase f) [] ≡ Some q)
  root_there (file s b) = (_, refl)

  spot_end : (n : ℕ) → n < length l.files → Spot l (end_of_file n) new
  spot_end n within =
      let f = tree_within l.files l.parsed n is.parsed within in
      let q = root_there f.0.tree in
      let from = length (statements_in q.0.inside) in
      record {
        build = f.0;
        is_build = f.1;
        place = q.0;
        is_place = q.1;
        from = from;
        is_now = ap (option_map (λ (b : BlockAt Nowhere). b.back (exchanged_in (length (statements_in b.inside)) 0 new b.inside))) q.1;
        at_ = beside.End (last_span f.0.tree);
        is_side = refl;
        is_path = refl;
      }

  file_found : (o : Option ℕ) (n : ℕ) → Rattle.std.specs.Prelude.ok_or o Rattle.meson_calls.specs.declared.refusal.Refusal.TheVariants.NoFile ≡ Ok n → o ≡ Some n
  file_found None n found = absurd cc
  file_found (Some m) n found = cc

  -- each place that is found is there
  pub spot_there : (p : CodePlace) (lines : FileLines) → lines_at l p ≡ Ok lines → Spot l lines new
  spot_there (code_place.Above s) lines found =
      let o = ok_then (the_anchor l s) (λ a. Ok (above_statement a)) lines found in
      let there = anchors_are_there l s o.0 o.1 in
      subst (λ m. Spot l m new) (let same : above_statement o.0 ≡ lines = (let e = o.2 in cc) in same) (spot_above o.0 there.0 there.1)
  spot_there (code_place.Below s) lines found =
      let o = ok_then (the_anchor l s) (λ a. Ok (below_statement a)) lines found in
      let there = anchors_are_there l s o.0 o.1 in
      subst (λ m. Spot l m new) (let same : below_statement o.0 ≡ lines = (let e = o.2 in cc) in same) (spot_below o.0 there.0 there.1)
  spot_there (code_place.End name) lines found =
      let o = ok_then (numbered_file l.files name) (λ n. Ok (end_of_file n)) lines found in
      let within = found-within name l.files o.0 (file_found (position_of_file name l.files) o.0 o.1) in
      subst (λ m. Spot l m new) (let same : end_of_file o.0 ≡ lines = (let e = o.2 in cc) in same) (spot_end o.0 within)

-- ---- what is written

module _ (code : List ℕ) (x : IsStatements code) where
  pub code-is : code_statements code ≡ file_statements x.tree
  code-is = ap Rattle.meson_code.specs.Insertion.statements_in ((trees-are-read code x.tree).1 x.reads)

  level_of : (t : Plain) → LevelFile t → LevelStatements (statements_of (file_statements t))
  level_of (file s (block b list)) l = subst LevelStatements (sym (list-of-statements list)) l

  pub code_level : LevelStatements (statements_of (code_statements code))
  code_level = subst (λ new. LevelStatements (statements_of new)) (sym code-is) (level_of x.tree x.reads.spells.level)

module _ (l : Loaded) (is : IsProject l) (lines : FileLines) (code : List ℕ) (x : IsStatements code) (blank : Option ℕ) (p : Spot l lines (code_statements code)) where
  abbrev source : List ℕ
  source = bytes_at lines.block.file l.files

  abbrev text : List ℕ
  text = inserted_text l lines code blank

  spanned : IsSpanned source p.build.tree
  spanned = spanned_there l.files l.parsed lines.block.file p.build is.parsed p.is_build

  text-is : text ≡ text_at source spanned.reads.spells.items blank code x.reads.spells.items p.at_
  text-is =
      let xs = spanned.reads.spells.items in
      let ys = x.reads.spells.items in
      ap (λ o. text_on source blank code (option_and_then (λ (f : BuildFile Span). side_in f.tree lines.block.path.steps lines.side) o)) p.is_build
      ∙ ap (text_on source blank code) p.is_side
      ∙ ap (λ us. text_at source us blank code (lexemes_of code) p.at_) (lexemes-are-items source xs spanned.reads.spells.are_items)
      ∙ ap (λ us. text_at source xs blank code us p.at_) (lexemes-are-items code ys x.reads.spells.are_items)

  pub written : IsWrittenLines text (code_statements code)
  written =
      let s = spanned.reads.spells in
      let t = x.reads.spells in
      subst (λ u. IsWrittenLines u (code_statements code)) (sym text-is) (record {
        text = subst (λ new. Rattle.meson_edit.specs.ExchangedLines.IsLinesText (text_at source s.items blank code t.items p.at_) new) (sym (code-is code x))
            (placed-lines source s.items s.are_items code t.items t.are_items blank x.tree t p.at_);
        utf8 = placed-utf8 source s.items s.are_items code t.items t.are_items blank x.reads.source.utf8 p.at_;
      })

  -- ---- the step

  alone_depth : (b : Block Nowhere) (new : List (Statement Nowhere)) → block_depth (with_statements b new) ≡ statements_depth (statements_of new)
  alone_depth (block s list) new = refl

  pub insertion_doable : has_room lines (code_statements code) ≡ true → AreDoable (insertion_step l lines code blank ∷ []) (plain_trees l)
  insertion_doable room =
      let new = code_statements code in
      let path = lines.block.path.steps in
      let t = erase p.build.tree in
      let now = p.place.back (exchanged_in p.from 0 new p.place.inside) in
      let trees = plain_trees l in
      let all = trees_stand l.files l.parsed is.parsed in
      let there = tree_there l.files l.parsed lines.block.file p.build p.is_build in
      let was = all_nth MayStandBetween trees lines.block.file t all there in
      let low : file_depth t ≤ 64 = all_nth (λ u. file_depth u ≤ 64) trees lines.block.file t (parsed_shallow l.files l.parsed is.parsed) there in
      let fits = leb-true (statements_depth (statements_of new)) (64 - around path) room in
      let grown = block_grows t path p.place p.is_place in
      let around_low = grown.low in
      let alone = grown.grows (with_statements p.place.inside new) in
      let same = alone_depth p.place.inside new in
      let alone_low : file_depth (p.place.back (with_statements p.place.inside new)) ≤ 64 = omega (arith, alone, same, fits, low, around_low) in
      let deep : file_depth now ≤ 64 = rooms-suffice t path p.place p.is_place 64 low p.from 0 new alone_low in
      step_doable (insertion_step l lines code blank) [] trees t now there p.is_now written all
      (lines-keep-levels (tree_place path lines.side) (record { bytes = text; node = new }) (code_level code x) t now was.0 p.is_now, omega (arith, deep)) (none _)

-- ---- as the code has it

side-is : (path : List ℕ) (at_ : LineSide) → lines_side (tree_place path at_) ≡ at_
side-is path (side.Above n) = refl
side-is path (side.Below n) = refl
side-is path side.End = refl

pub step-bare : (l : Loaded) (lines : FileLines) (code : List ℕ) (blank : Option ℕ) → block_of_lines (tree_place lines.block.path.steps lines.side) ≡ lines.block.path.steps
    → (text : List ℕ) → text ≡ inserted_text l lines code blank
    → bare (insertion_step l lines code blank) ≡ Some (record { list = lines.block; edit = code_edit.Lines lines.side text })
step-bare l lines code blank path text is =
    ap (λ steps. Some (record { list = place lines.block.file steps; edit = code_edit.Lines (lines_side (tree_place lines.block.path.steps lines.side)) (inserted_text l lines code blank) })) path
    ∙ ap (λ s. Some (record { list = lines.block; edit = code_edit.Lines s (inserted_text l lines code blank) })) (side-is lines.block.path.steps lines.side)
    ∙ ap (λ t. Some (record { list = lines.block; edit = code_edit.Lines lines.side t })) (sym is)
