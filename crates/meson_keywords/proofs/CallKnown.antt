-- A call that stands in known files: its tree, its list with spans, and the strings in that.
use Rattle.meson_keywords.proofs.Words.{◌≡◌, ℕ, zero, suc, ◌<◌, List, [], ◌∷◌, ◌++◌, length, map, get_or, Some, sym, ap, ◌∙◌, subst, arith, ◌≤◌, All, Bool}
use Rattle.meson_keywords.proofs.Words.{true, false, if◌then◌else◌, option_map, bytes_at, File, Span, file_words, listing_words, ListAt, list_at, nth, Nowhere}
use Rattle.meson_keywords.proofs.Words.{Plain, erase, erase_argument, erase_listing, view, Parsed, some-injective, elements, GoodListing, views, AreGood}
use Rattle.meson_keywords.proofs.Words.{CallRef, good_left, good_right, good_listing, MayStandBetween, wide_depth, AreKnown, erased_elements, tree_there}
use Rattle.meson_keywords.proofs.Words.{CallStands, elements_in}
use Rattle.meson_edit.specs.Holes.{ListFront, list_front, erase_list_front}
use Rattle.meson_syntax.specs.Reads.{of_files, wide}
use Rattle.meson_syntax.specs.Tree as tree
use Rattle.meson_syntax.proofs.parsing.FileErased.{file-words-erased}
use Rattle.meson_edit.proofs.paths.Erased.{lists-erase}
use Rattle.meson_syntax.proofs.paths.Reaching.{list-fits, map-some}
use Rattle.meson_steps.specs.declared.journal.Saved.{Saved}
use Rattle.meson_steps.specs.Journal.{is_saved}
use Rattle.meson_keywords.proofs.CallEdits.{elements_are}
use Rattle.meson_calls.proofs.GoodTexts.{text_good}
use Rattle.meson_calls.proofs.Standing.{nth_there}
use Rattle.meson_steps.proofs.OtherBytes.{as_many_plain}
use Rattle.meson_steps.proofs.WorkLimits.{plain_all}

abbrev pub known_trees : List File → List Parsed → List Plain
known_trees files trees = map erase (views files trees)

within_wide : (saved : Bool) (n : ℕ) → n ≤ (if saved then wide else of_files).depth → n ≤ wide_depth
within_wide true n within = within
within_wide false n within = omega (arith, within)

-- they have their levels and are not too deep
pub known_stand : (saved : List Saved) (files : List File) (trees : List Parsed) → AreKnown saved files trees → All MayStandBetween (known_trees files trees)
known_stand saved files trees known = plain_all MayStandBetween files trees known.as_many (λ k d within.
    let r = (known.each k d within).reads in
    (r.spells.level, within_wide (is_saved k saved) _ r.depth))

nth_within : (ts : List Plain) (i : ℕ) (t : Plain) → nth ts i ≡ Some t → i < length ts
nth_within [] i t is = absurd cc
nth_within (x ∷ ts) zero t is = omega arith
nth_within (x ∷ ts) (suc i) t is = let below = nth_within ts i t is in omega (arith, below)

-- the strings of a list in a tree whose strings are of their kinds
list_good : (f : tree.File Span) (path : List ℕ) (p : ListAt Span) → list_at f path ≡ Some p → AreGood (file_words f) → GoodListing p.list
list_good f path p is good =
    let fits = list-fits Span f path p is in
    let whole = subst AreGood (fits.put p.list) (subst (λ g. AreGood (file_words g)) (sym fits.same) good) in
    good_listing p.list p.bracket (good_left (listing_words p.list p.bracket) p.behind (good_right p.before (listing_words p.list p.bracket ++ p.behind) whole))

module _ (saved : List Saved) (files : List File) (trees : List Parsed) (known : AreKnown saved files trees) (c : CallRef) (s : CallStands c (known_trees files trees)) where
  pub within_trees : c.file < length trees
  within_trees = let there = nth_within (known_trees files trees) c.file s.tree s.is_tree in omega (arith, there, as_many_plain files trees known.as_many)

  pub within_files : c.file < length files
  within_files = omega (arith, within_trees, known.as_many)

  module _ (d : Parsed) where
    abbrev bytes : List ℕ
    bytes = bytes_at c.file files

    abbrev pub tree_here : tree.File Span
    tree_here = view bytes (get_or trees c.file d)

    same_tree : s.tree ≡ erase tree_here
    same_tree =
        let there = tree_there files trees c.file _ (nth_there files trees c.file d known.as_many within_trees) in
        some-injective _ _ (sym s.is_tree ∙ there)

    -- the list of the call, with spans
    pub record ListKnown : Type 0 where
      pub place : ListAt Span
      pub is_place : list_at tree_here c.path.steps ≡ Some place
      pub good : GoodListing place.list
      pub are : elements_in c (known_trees files trees) ≡ map erase_argument (elements place.list)

    pub list_known : ListKnown
    list_known =
        let plain_is : list_at (erase tree_here) c.path.steps ≡ Some s.place = subst (λ t. list_at t c.path.steps ≡ Some s.place) same_tree s.is_place in
        let front = sym (lists-erase tree_here c.path.steps) ∙ ap (option_map list_front) plain_is in
        let o = map-some (λ (q : ListAt Span). erase_list_front (list_front q)) (list_at tree_here c.path.steps) (list_front s.place) front in
        let same : s.place.list ≡ erase_listing o.0.list = sym (ap (λ (u : ListFront Nowhere). u.list) o.2) in
        let spanned = known.each c.file d within_files in
        let good = subst AreGood (file-words-erased tree_here) (text_good bytes (erase tree_here) spanned.reads.spells) in
        record {
          place = o.0;
          is_place = o.1;
          good = list_good tree_here c.path.steps o.0 o.1 good;
          are = elements_are c (known_trees files trees) (known_stand saved files trees known) s ∙ ap elements same ∙ erased_elements o.0.list;
        }
