-- One step of those that may be done one after another.
use Rattle.meson_steps.proofs.Words.{◌≡◌, ℕ, ◌+◌, ◌<◌, ◌≤◌, List, [], ◌∷◌, ◌++◌, length, get_or, refl, sym, ap, ap₂, ◌∙◌, subst, arith, All, Bool, true, false}
use Rattle.meson_steps.proofs.Words.{None, Some, Ok, if◌then◌else◌, option_and_then, slice_set, IsUtf8, set-get_or, IsDistinct, bytes_at, with_bytes}
use Rattle.meson_steps.proofs.Words.{patched_all, File, Splice, Lexeme, IsItemList, Span, patched_by, AreTexts, IsPlaced, IsReady, layout_of, pieces, IsReadyIn}
use Rattle.meson_steps.proofs.Words.{Primitive, file_depth, list_at, list_span, IsSpannedWithin, ReadsWithin, Spells, of_files, wide, ReadsListWithin, Plain}
use Rattle.meson_steps.proofs.Words.{erase, view, Limits, Parsed, some-injective, other_limits, Edit, edited, edited_list, IsEditOf, MakesText, WritesList}
use Rattle.meson_steps.proofs.Words.{HasFileName, Loaded, max_files, name_of_file, CallRef, is_saved, AreDoable, MayStandBetween, bare, wide_depth, plain_trees}
use Rattle.meson_steps.proofs.Words.{saturated, Step, StepsMake, Laid, bytes_again, effective, list_of, read_again, AreKnown, HasReached, MayChangeList}
use Rattle.meson_steps.proofs.Words.{Standing, limits_of, stood, ListStep, IsChanged, MayChange, placed_edit}
use Rattle.std.proofs.Common.{append-nil}
use Rattle.meson_syntax.specs.Tree as tree
use Rattle.meson_edit.proofs.exchange.Standing.{spelled-reads}
use Rattle.meson_syntax.proofs.parsing.Answers.{reads-found}
use Rattle.meson_edit.proofs.lists.Answers.{list-edits-look, list-edits-write}
use Rattle.meson_edit.proofs.lists.Found.{Found, found}
use Rattle.meson_edit.proofs.lists.ReadAlone.{written-lists-read}
use Rattle.meson_steps.proofs.PatchedFiles.{OfFile, all_patched, distinct_with, effective_of_file, effective_patches, effective_texts, of_file}
use Rattle.meson_steps.proofs.StepPlaces.{every_edit, list_there, next_doable, step_code, NextDoable, IsCode}
use Rattle.meson_steps.proofs.OneMoreStep.{saturated_more, stepped_more, steps_more}
use Rattle.meson_steps.proofs.OtherBytes.{as_many_files, as_many_plain, bytes_there, named_with, plain_at, plain_with}
use Rattle.meson_steps.proofs.WithOne.{ChangedAt, all_at, changed_from}
use Rattle.meson_steps.proofs.WorkKnown.{known_with}

-- a text spells one tree, however deep it nests
one_spelled : (bytes : List ℕ) (s t : Plain) → IsUtf8 bytes → Spells bytes s → Spells bytes t → s ≡ t
one_spelled bytes s t utf8 p q =
    let limits : Limits = record { len = None; depth = file_depth s + file_depth t } in
    let ps : ReadsWithin limits bytes s = spelled-reads limits bytes s p utf8 tt (omega arith) in
    let qs : ReadsWithin limits bytes t = spelled-reads limits bytes t q utf8 tt (omega arith) in
    let f = reads-found limits bytes p.items ps.source p.are_items s ps in
    let g = reads-found limits bytes p.items ps.source p.are_items t qs in
    let same : f.0 ≡ g.0 = some-injective _ _ (sym f.2 ∙ g.2) in
    sym f.1 ∙ ap erase same ∙ g.1

-- what is read again where there are splices
again_for : (e : Edit) (f : tree.File Span) (splices : List Splice) (before after : List ℕ) → (splices ≡ [] → ⊥)
    → read_again e f splices before after ≡ bytes_again (option_and_then (list_at f) (list_of e)) before after
again_for e f [] before after some = absurd (some refl)
again_for e f (s ∷ splices) before after some = refl

-- a file that is known reads within the wide limits
wide_by : (saved : Bool) (bytes : List ℕ) (f : tree.File Span) → IsSpannedWithin (if saved then wide else of_files) bytes f → IsSpannedWithin wide bytes f
wide_by true bytes f s = s
wide_by false bytes f s = other_limits of_files wide bytes f s (record { fits = tt; utf8 = s.reads.source.utf8; no_mark = s.reads.source.no_mark }) (omega (arith, s.reads.depth))

module _ (old : Loaded) (w : Standing) (before rest : List Step) (s : Step) (r : HasReached old before (s ∷ rest) w) where
  abbrev pub files : List File
  files = w.files

  abbrev pub i : ℕ
  i = s.file

  abbrev pub parsed : List Parsed
  parsed = w.trees

  abbrev pub plain : List Plain
  plain = plain_trees (stood w)

  abbrev pub bytes : List ℕ
  bytes = bytes_at i files

  abbrev pub name : List ℕ
  name = name_of_file i files

  many : length parsed ≡ length files
  many = r.known.as_many

  pub next : NextDoable s rest plain
  next = next_doable s rest plain r.doable

  pub changed : ChangedAt (edited s.edit) i plain next.between
  changed = changed_from (edited s.edit) plain next.between i next.is

  -- ---- the place

  pub in_files : i < length files
  in_files =
      let within = changed.within in
      let all = as_many_plain files parsed many in
      omega (arith, within, all, many)

  pub in_trees : i < length parsed
  in_trees = let inside = in_files in omega (arith, inside, many)

  module _ (t : Parsed) (there : t ≡ get_or parsed i t) where
    abbrev pub f : tree.File Span
    f = view bytes t

    abbrev pub limits : Limits
    limits = limits_of w.saved i

    pub spanned : IsSpannedWithin limits bytes f
    spanned = subst (λ u. IsSpannedWithin limits bytes (view bytes u)) (sym there) (r.known.each i t in_files)

    abbrev pub items : List Lexeme
    items = spanned.reads.spells.items

    are_items : IsItemList bytes items
    are_items = spanned.reads.spells.are_items

    plain_is : get_or plain i (erase f) ≡ erase f
    plain_is = plain_at files parsed i t (erase f) many in_trees ∙ ap (λ u. erase (view bytes u)) (sym there)

    edited_is : edited s.edit (erase f) ≡ Some changed.new
    edited_is = ap (edited s.edit) (sym plain_is) ∙ changed.is (erase f)

    stands : MayStandBetween changed.new
    stands = all_at MayStandBetween plain i changed.new changed.within (subst (All MayStandBetween) changed.are next.stand)

    pub made : MakesText bytes f items name s.edit changed.new
    made = every_edit s.edit limits bytes f spanned items are_items name next.writes changed.new edited_is stands.0

    -- ---- the list

    module _ (path : List ℕ) (of : list_of s.edit ≡ Some path) where
      abbrev there_is : IsEditOf path s.edit × (edited_list s.edit path (erase f) ≡ Some changed.new)
      there_is = list_there s.edit f path changed.new of edited_is

      pub list_found : Found f s.edit path changed.new
      list_found = found f s.edit path changed.new there_is.1

      pub list_is : list_at f path ≡ Some list_found.p
      list_is = list_found.is_p

    -- ---- the layout

    module _ (step : ListStep) (is : bare s ≡ Some step) where
      code : IsCode f s step
      code = step_code f s step is

      pub laid_is : placed_edit f step.list.path.steps step.edit ≡ Some made.primitive
      laid_is = code.laid ∙ made.is_primitive

      pub is_ready : (p : Primitive) → Some p ≡ placed_edit f step.list.path.steps step.edit → IsReady bytes p
      is_ready p laid = record { items = items; are_items = are_items; placed = subst (λ q. IsPlaced q items) (some-injective _ _ (sym laid_is ∙ sym laid)) made.placed }

      pub is_ready_in : (path : List ℕ) (of : list_of s.edit ≡ Some path) (p : Primitive) → Some p ≡ placed_edit f step.list.path.steps step.edit → IsReadyIn bytes (list_span (list_found path of).p.list) p
      is_ready_in path of p laid =
          list-edits-look s.edit limits bytes f spanned next.writes changed.new edited_is path (there_is path of).0 (list_found path of).p (list_found path of).is_p p
          (made.is_primitive ∙ sym laid_is ∙ sym laid)

      pub splices_are : (p : Primitive) → Some p ≡ placed_edit f step.list.path.steps step.edit → (splices : List Splice) → ((list : List Lexeme) → IsItemList bytes list → splices ≡ effective (layout_of name list p))
          → splices ≡ effective (layout_of name items made.primitive)
      splices_are p laid splices are = are items are_items ∙ ap (λ q. effective (layout_of name items q)) (some-injective _ _ (laid ∙ laid_is))

    module _ (splices : List Splice) (are : splices ≡ effective (layout_of name items made.primitive)) where
      patches : patched_by bytes splices ≡ Ok made.text
      patches = ap (patched_by bytes) are ∙ effective_patches bytes made.text (layout_of name items made.primitive) made.patches

      one_file : OfFile name splices
      one_file = subst (OfFile name) (sym are) (effective_of_file name (layout_of name items made.primitive) (of_file name 0 (pieces made.primitive items)))

      all_made : patched_all files splices ≡ Ok (with_bytes i made.text files)
      all_made = all_patched files i made.text splices r.distinct in_files one_file patches

      laid : Laid files s splices
      laid = record {
        file = f;
        limits = limits;
        spanned = spanned;
        writes = next.writes;
        now = changed.new;
        is_now = edited_is;
        items = items;
        are_items = are_items;
        primitive = made.primitive;
        is_primitive = made.is_primitive;
        is_layout = are;
        text = made.text;
        is_text = made.patches;
        made = all_made;
        texts = subst AreTexts (sym are) (effective_texts (layout_of name items made.primitive) made.texts);
      }

      pub may_change : MayChange files i splices
      may_change =
          let reads : ReadsWithin wide made.text changed.new = spelled-reads wide made.text changed.new made.spells made.utf8 tt stands.1 in
          record { files = with_bytes i made.text files; is = all_made; tree = changed.new; reads = subst (λ b. ReadsWithin wide b changed.new) (sym (bytes_there files i made.text in_files)) reads }

      -- ---- a list

      module _ (path : List ℕ) (of : list_of s.edit ≡ Some path) where
        abbrev here : Found f s.edit path changed.new
        here = list_found path of

        writes : WritesList bytes made.text f path here.p changed.new
        writes = list-edits-write s.edit limits bytes f spanned items are_items name next.writes changed.new edited_is path (there_is path of).0 here.p here.is_p
            made.primitive made.is_primitive made.text made.patches

        pub may_change_list : (place : CallRef) → place.file ≡ i → place.path.steps ≡ path → MayChangeList files place splices t
        may_change_list place same_file same_path =
            let reads : ReadsWithin wide made.text changed.new = spelled-reads wide made.text changed.new made.spells made.utf8 tt stands.1 in
            let old : bytes_at place.file files ≡ bytes = ap (λ k. bytes_at k files) same_file in
            record {
              spanned = subst (λ b. IsSpannedWithin wide b (view b t)) (sym old) (wide_by (is_saved i w.saved) bytes f spanned);
              p = here.p;
              is_p = ap₂ (λ b l. list_at (view b t) l) old same_path ∙ here.is_p;
              text = record {
                files = with_bytes i made.text files;
                is = all_made;
                front = writes.front;
                was = writes.was;
                now = writes.now;
                back = writes.back;
                old = old ∙ writes.old;
                new = ap (λ k. bytes_at k (with_bytes i made.text files)) same_file ∙ bytes_there files i made.text in_files ∙ writes.new;
                from = writes.from;
                to = writes.to;
                list = writes.list;
                reads_list = subst (λ b. ReadsListWithin wide_depth b writes.now writes.list) writes.bracket (written-lists-read bytes made.text f path here.p changed.new writes stands.0 wide_depth stands.1);
              };
              q = writes.q;
              is_q = ap₂ (λ b l. list_at (erase (view b t)) l) old same_path ∙ writes.is_q;
              reads = subst (λ b. ReadsWithin wide b (writes.q.back writes.list)) writes.new (subst (ReadsWithin wide made.text) (sym writes.is_tree) reads);
            }

      -- ---- nothing new

      pub same_reached : splices ≡ [] → HasReached old (before ++ s ∷ []) rest w
      same_reached empty =
          let text_same : made.text ≡ bytes = let h = sym patches ∙ ap (patched_by bytes) empty in cc in
          let spells = subst (λ b. Spells b changed.new) text_same made.spells in
          let tree_same : changed.new ≡ erase f = one_spelled bytes changed.new (erase f) spanned.reads.source.utf8 spells spanned.reads.spells in
          let back : next.between ≡ plain = changed.are ∙ ap (λ t. slice_set plain i t) (tree_same ∙ sym plain_is) ∙ set-get_or plain i (erase f) in
          let none = subst (Laid files s) empty laid in
          let count : r.made.bytes + 0 ≡ r.made.bytes = omega arith in
          let done = steps_more old.files files files before s w.splices [] r.made.bytes r.made.are_done none refl in record {
            made = record {
              bytes = r.made.bytes;
              are_trees = stepped_more before s (plain_trees old) plain plain r.made.are_trees (next.is ∙ ap Some back);
              are_done = subst (λ n. StepsMake old.files (before ++ s ∷ []) w.splices files n) count (subst (λ ss. StepsMake old.files (before ++ s ∷ []) ss files (r.made.bytes + 0)) (simp append-nil) done);
              is_relexed = r.made.is_relexed;
            };
            doable = subst (AreDoable rest) back next.doable;
            known = r.known;
            distinct = r.distinct;
            few = r.few;
            named = r.named;
          }

      -- ---- another text

      module _ (some : splices ≡ [] → ⊥) (new : Standing) (n : ℕ) (c : IsChanged w new i splices n) (count : n ≡ bytes_again (option_and_then (list_at f) (list_of s.edit)) bytes (bytes_at i new.files)) where
        abbrev again : ℕ
        again = read_again s.edit f splices bytes (bytes_at i new.files)

        files_are : new.files ≡ with_bytes i made.text files
        files_are = let h = sym c.are_files ∙ all_made in cc

        text_is : bytes_at i new.files ≡ made.text
        text_is = ap (bytes_at i) files_are ∙ bytes_there files i made.text in_files

        read : IsSpannedWithin wide made.text (view made.text c.tree)
        read = subst (λ b. IsSpannedWithin wide b (view b c.tree)) text_is c.is_read

        tree_is : changed.new ≡ erase (view made.text c.tree)
        tree_is = one_spelled made.text changed.new (erase (view made.text c.tree)) made.utf8 made.spells read.reads.spells

        plain_are : next.between ≡ plain_trees (stood new)
        plain_are =
            changed.are ∙ ap (λ t. slice_set plain i t) tree_is ∙ sym (plain_with files parsed i made.text c.tree many)
            ∙ ap (λ fs. plain_trees (record { files = fs; parsed = slice_set parsed i c.tree })) (sym files_are)
            ∙ ap (λ ts. plain_trees (record { files = new.files; parsed = ts })) (sym c.are_trees)

        relexed_is : new.relexed ≡ saturated (r.made.bytes + again)
        relexed_is =
            c.is_relexed ∙ ap (λ k. saturated (k + n)) r.made.is_relexed ∙ saturated_more r.made.bytes n
            ∙ ap (λ k. saturated (r.made.bytes + k)) (count ∙ sym (again_for s.edit f splices bytes (bytes_at i new.files) some))

        pub new_reached : HasReached old (before ++ s ∷ []) rest new
        unfolding laid
        new_reached = record {
          made = record {
            bytes = r.made.bytes + again;
            are_trees = stepped_more before s (plain_trees old) plain (plain_trees (stood new)) r.made.are_trees (next.is ∙ ap Some plain_are);
            are_done = subst (λ ss. StepsMake old.files (before ++ s ∷ []) ss new.files (r.made.bytes + again)) (sym c.are_splices)
                (steps_more old.files files new.files before s w.splices splices r.made.bytes r.made.are_done laid c.are_files);
            is_relexed = relexed_is;
          };
          doable = subst (AreDoable rest) plain_are next.doable;
          known = subst (λ fs. AreKnown new.saved fs new.trees) (sym files_are)
              (subst (AreKnown new.saved (with_bytes i made.text files)) (sym c.are_trees)
              (known_with w.saved new.saved files parsed i made.text c.tree r.known in_files c.are_saved read));
          distinct = subst IsDistinct (sym files_are) (distinct_with files i made.text r.distinct);
          few = subst (λ fs. length fs ≤ max_files) (sym files_are) (subst (λ n. n ≤ max_files) (sym (as_many_files files i made.text)) r.few);
          named = subst (All HasFileName) (sym files_are) (named_with files i made.text r.named);
        }
