-- The assignments of a file are those whose places a walk keeps.
use Rattle.std.proofs.Common.{◌≡◌, ℕ, ◌+◌, ◌<◌, ◌≤◌, zero, suc, List, [], ◌∷◌, ◌++◌, length, get_or, drop, map, Bool, true, false, ◌||◌, Option, Some, refl, sym, ap, ap₂, ◌∙◌, subst, arith}
use Rattle.std.specs.Prelude.{option_and_then}
use Rattle.std.specs.Option.{option_map_or}
use Rattle.std.specs.List.{cons_option}
use Rattle.std.proofs.lemmas.List.{append_assoc, append-nil, at_drop_all, map-append}
use Rattle.std.proofs.lemmas.List.Elements.{filter_map-append}
use Rattle.meson_lex.specs.Kinds.{IsIdentifier}
use Rattle.meson_lex.specs.declared.kinds.Span.{Span}
use Rattle.meson_splice.specs.declared.file_set.File as source
use Rattle.meson_splice.specs.Files.{bytes_at}
use Rattle.meson_syntax.specs.declared.operator.Assignment.{Assignment}
use Rattle.meson_syntax.specs.declared.tree.Parsed.{Parsed}
use Rattle.meson_syntax.specs.Children.{Any, a_statement, a_block}
use Rattle.meson_syntax.specs.inside.Children.{expression_any}
use Rattle.meson_syntax.specs.Paths.{block_of, expression_on_path}
use Rattle.meson_syntax.specs.Reads.{IsSpanned}
use Rattle.meson_syntax.specs.Texts.{texts_of_expression, texts_of_name}
use Rattle.meson_syntax.specs.Tree.{Name, Expression, assign, File, erase}
use Rattle.meson_syntax.specs.View.{text_at, view}
use Rattle.meson_syntax.proofs.PathNodes.{expression-reached}
use Rattle.meson_syntax.proofs.parsing.FileErased.{file-words-erased}
use Rattle.meson_edit.specs.Standing.{expression_span}
use Rattle.meson_calls.specs.declared.call.CallRef.{CallRef}
use Rattle.meson_calls.specs.declared.kept.KeptAssignment.{KeptAssignment}
use Rattle.meson_calls.specs.Notes.{is_set}
use Rattle.meson_calls.specs.Parts.{Part, parts_of_file}
use Rattle.meson_calls.specs.Parts as part
use Rattle.meson_calls.specs.Project.{Placed, child, placed}
use Rattle.meson_calls.specs.Setters.{assignment_at, assignments_in, has_loop, is_loop}
use Rattle.meson_calls.specs.Strings.{AreGood, PartsGood, part_words}
use Rattle.meson_calls.specs.Walks.{assignments_kept, keeper_view, with_parts}
use Rattle.meson_calls.specs.declared.keeper.Assignments.{Assignments}
use Rattle.meson_calls.specs.declared.keeper.Keeper.{Keeper}
use Rattle.meson_calls.specs.declared.keeper.Keeper.TheVariants as keeper
use Rattle.meson_calls.proofs.FileTurns.{left, one_file}
use Rattle.meson_calls.proofs.GoodParts.{file_good}
use Rattle.meson_calls.proofs.GoodTexts.{text_good}
use Rattle.meson_calls.proofs.ListNodes.{node_below}
use Rattle.meson_calls.proofs.Reached.{At, Each, file_each}
use Rattle.meson_calls.proofs.nodes.PartsBelow.{any}
use Rattle.meson_calls.proofs.StandingParts.{PartsStand, parts_stand, texts_of_part}
use Rattle.meson_inventory.specs.Assignments.{assignment_of, assignments_among}
use Rattle.meson_inventory.specs.inside.Assignments.{AreNamed, held_at}
use Rattle.meson_inventory.specs.declared.assignments.HeldAssignment.{HeldAssignment}

abbrev among : Placed (Part Span) → Option HeldAssignment
among q = assignment_of q.place.file q.it

abbrev place_of : Placed (Part Span) → Option KeptAssignment
place_of q = assignment_at q.place q.it

-- ---- what a walk keeps

either : (a b c : Bool) → (a || (b || c)) ≡ ((b || a) || c)
either true true c = refl
either true false c = refl
either false true c = refl
either false false c = refl

gathered : (loops : Bool) (ks : List KeptAssignment) (ps : List (Placed (Part Span))) → with_parts (assignments_kept loops ks) ps ≡ assignments_kept (has_loop ps || loops) (ks ++ assignments_in ps)
gathered loops ks [] = ap (assignments_kept loops) (sym (append-nil ks))
gathered loops ks (q ∷ ps) =
    gathered (is_loop q.it || loops) (ks ++ assignments_in (q ∷ [])) ps
    ∙ ap₂ assignments_kept (either (has_loop ps) (is_loop q.it) loops)
    (append_assoc ks (assignments_in (q ∷ [])) (assignments_in ps) ∙ ap (λ l. ks ++ l) (sym (filter_map-append place_of (q ∷ []) ps)))

pub record Gathered (k : Keeper) (ps : List (Placed (Part Span))) : Type 0 where
  pub kept : Assignments
  pub is : k ≡ keeper.Assignments kept
  pub are : kept.found.items ≡ assignments_in ps

pub all_gathered : (k : Keeper) (ps : List (Placed (Part Span))) → keeper_view k ≡ with_parts (assignments_kept false []) ps → Gathered k ps
all_gathered (keeper.Assignments a) ps comes =
    let all = comes ∙ gathered false [] ps in
    let own : a.found.items ≡ assignments_in ps = cc in
    record { kept = a; is = refl; are = own }
all_gathered (keeper.Notes found) ps comes = let all = comes ∙ gathered false [] ps in absurd (let no : ⊥ = cc in no)
all_gathered (keeper.Setters setters) ps comes = let all = comes ∙ gathered false [] ps in absurd (let no : ⊥ = cc in no)
all_gathered (keeper.Reads name found) ps comes = let all = comes ∙ gathered false [] ps in absurd (let no : ⊥ = cc in no)
all_gathered (keeper.Lists found) ps comes = let all = comes ∙ gathered false [] ps in absurd (let no : ⊥ = cc in no)

-- ---- each is the assignment

module _ (n : ℕ) (bytes : List ℕ) (t : Parsed) where
  abbrev tree : File Span
  tree = view bytes t

  abbrev root : Any Span
  root = a_block (block_of tree)

  -- the value of an assignment stands at its first child
  value_there : (p : CallRef) (s : Span) (x : Name Span) (a : Assignment) (e : Expression Span) → At n root p (a_statement (assign s x a e)) → expression_on_path tree (child p 0).path.steps ≡ Some e
  value_there p s x a e at =
      expression-reached Span tree (p.path.steps ++ 0 ∷ []) ∙ ap (option_and_then expression_any) (node_below Span root p.path.steps (a_statement (assign s x a e)) 0 at.1)

  abbrev held : ℕ → Span → Assignment → Option (Expression Span) → HeldAssignment
  held file x a o = record {
    file = file;
    span = record { from = x.from; to = option_map_or (λ (e : Expression Span). (expression_span {S = Span} e).to) o 0 };
    variable = text_at bytes x;
    sets = is_set a;
  }

  one : (p : CallRef) (y : Part Span) → At n root p (any (texts_of_part bytes y))
      → map (held_at n bytes t) (assignments_in (placed p (texts_of_part bytes y) ∷ [])) ≡ assignments_among (placed p (texts_of_part bytes y) ∷ [])
  one p (part.an_expression e) at = refl
  one p (part.a_statement (assign s x a e)) at =
      let v = texts_of_expression bytes e in
      ap₂ (λ file o. held file x.place a o ∷ []) (sym at.0) (value_there p s (texts_of_name bytes x) a v at)
  one p (part.a_statement s) at = refl

  all : (ps : List (Placed (Part Span))) → Each n root ps → PartsStand bytes ps → map (held_at n bytes t) (assignments_in ps) ≡ assignments_among ps
  all [] each stand = refl
  all (q ∷ ps) each stand =
      let is = stand.0.is in
      let here : map (held_at n bytes t) (assignments_in (q ∷ [])) ≡ assignments_among (q ∷ []) =
      subst (λ y. map (held_at n bytes t) (assignments_in (placed q.place y ∷ [])) ≡ assignments_among (placed q.place y ∷ [])) (sym is)
      (one q.place stand.0.part (subst (λ y. At n root q.place (any y)) is each.0)) in
      ap (map (held_at n bytes t)) (filter_map-append place_of (q ∷ []) ps)
      ∙ map-append (held_at n bytes t) (assignments_in (q ∷ [])) (assignments_in ps)
      ∙ ap₂ (λ a b. a ++ b) here (all ps each.1 stand.1)
      ∙ sym (filter_map-append among (q ∷ []) ps)

  pub all_held : IsSpanned bytes tree → (ks : List KeptAssignment) → ks ≡ assignments_in (parts_of_file n tree) → map (held_at n bytes t) ks ≡ assignments_among (parts_of_file n tree)
  all_held spanned ks are = ap (map (held_at n bytes t)) are ∙ all (parts_of_file n tree) (file_each n tree) (parts_stand n bytes tree spanned)

  -- ---- their variables are identifiers

  with_name : (p : CallRef) (y : Part Span) (ks : List KeptAssignment) → AreGood (part_words (texts_of_part bytes y)) → AreNamed bytes ks
      → AreNamed bytes (cons_option (assignment_at p (texts_of_part bytes y)) ks)
  with_name p (part.an_expression e) ks good more = more
  with_name p (part.a_statement (assign s x a e)) ks good more = (good.0, more)
  with_name p (part.a_statement s) ks good more = more

  named : (ps : List (Placed (Part Span))) → PartsGood ps → PartsStand bytes ps → AreNamed bytes (assignments_in ps)
  named [] good stand = tt
  named (q ∷ ps) good stand =
      let is = stand.0.is in
      subst (λ y. AreNamed bytes (cons_option (assignment_at q.place y) (assignments_in ps))) (sym is)
      (with_name q.place stand.0.part (assignments_in ps) (subst (λ y. AreGood (part_words y)) is good.0) (named ps good.1 stand.1))

  pub all_named : IsSpanned bytes tree → (ks : List KeptAssignment) → ks ≡ assignments_in (parts_of_file n tree) → AreNamed bytes ks
  all_named spanned ks are =
      subst (AreNamed bytes) (sym are)
      (named (parts_of_file n tree) (file_good n tree (subst AreGood (file-words-erased tree) (text_good bytes (erase tree) spanned.reads.spells))) (parts_stand n bytes tree spanned))

pub named_at : (bytes : List ℕ) (ks : List KeptAssignment) (i : ℕ) (d : KeptAssignment) → i < length ks → AreNamed bytes ks → IsIdentifier (text_at bytes (get_or ks i d).name)
named_at bytes [] i d within are = absurd (omega (arith, within))
named_at bytes (k ∷ ks) zero d within are = are.0
named_at bytes (k ∷ ks) (suc i) d within are = let below : i < length ks = omega (arith, within) in named_at bytes ks i d below are.1

-- ---- files, one after another

pub file_added : (files : List source.File) (trees : List Parsed) (i : ℕ) (d : Parsed) (before here after whole : List HeldAssignment) → i < length files → i < length trees
    → here ≡ assignments_among (parts_of_file i (view (bytes_at i files) (get_or trees i d))) → after ≡ before ++ here
    → before ++ assignments_among (left i (drop i files) (drop i trees)) ≡ whole
    → after ++ assignments_among (left (i + 1) (drop (i + 1) files) (drop (i + 1) trees)) ≡ whole
file_added files trees i d before here after whole within inside is joins so_far =
    let ps = parts_of_file i (view (bytes_at i files) (get_or trees i d)) in
    let more = left (i + 1) (drop (i + 1) files) (drop (i + 1) trees) in
    ap (λ a. a ++ assignments_among more) joins
    ∙ append_assoc before here (assignments_among more)
    ∙ ap (λ h. before ++ (h ++ assignments_among more)) is
    ∙ ap (λ l. before ++ l) (sym (filter_map-append among ps more))
    ∙ ap (λ qs. before ++ assignments_among qs) (sym (one_file files trees i (record { name = []; bytes = [] }) d within inside))
    ∙ so_far

pub all_added : (files : List source.File) (trees : List Parsed) (i : ℕ) (held whole : List HeldAssignment) → length files ≤ i → held ++ assignments_among (left i (drop i files) (drop i trees)) ≡ whole → held ≡ whole
all_added files trees i held whole past so_far =
    sym (append-nil held) ∙ ap (λ l. held ++ l) (sym (at_drop_all (λ fs. assignments_among (left i fs (drop i trees))) files i past)) ∙ so_far
