-- The list to which sources are added is in order with them where it was in order and each has a place in it.
use Rattle.std.proofs.lemmas.List.{drop-map}
use Rattle.std.specs.List.{AllByRecursion}
use Rattle.meson_steps.specs.OrderedLists.{all_elements, sort_keys}
use Rattle.meson_sources.specs.InOrder.{HasPlace, OrderIsKept, are_in_order}
use Rattle.meson_sources.specs.Sorting.{added_text, first_sorted, sorted_in}
use Rattle.meson_sources.proofs.Words.{All, IsUtf8, ap, arith, drop, length, length-append, length-map, List, map, Some, subst, sym, true, ℕ, ◌++◌, ◌+◌, ◌∙◌, ◌≡◌, ◌≤◌}
use Rattle.meson_sources.proofs.Words.{AreParsed, CallRef, erase_argument, Loaded, plain, project, source_marks, plain_len, plain_trees, all_stepped, new_names}
use Rattle.meson_sources.proofs.added.Homes.{Home, new_texts, sources_home}
use Rattle.meson_sources.proofs.met.Targets.{files_stand}
use Rattle.meson_sources.proofs.met.Standing.{targets_stand}
use Rattle.meson_sources.proofs.sorted.Homes.{elements_after, elements_same, few_before, fits, o, old_elements, sorted_was, xs}
use Rattle.meson_sources.proofs.sorted.InOrder.{AreApart, all_in_order, new_apart}
use Rattle.meson_sources.proofs.sorted.Keys.{keys_after, keys_erased, texts_keyed}

module _ (old : Loaded) (are : AreParsed old.files old.parsed) (list : CallRef) (h : Home (project old) list) (n : ℕ) (few : n ≤ plain_len (project old) list) where
  keys_were : sort_keys (drop n (xs old are list h n few)) ≡ (o old are list h n few).keys
  keys_were =
      let olds = old_elements old are list h n few in
      ap sort_keys (drop-map erase_argument n olds) ∙ keys_erased (drop n olds) ∙ ap (λ l. sort_keys (drop n l)) (sym (elements_same old are list h n few))

  still_in_order : (names : List (List ℕ)) → All IsUtf8 names → AreApart names → are_in_order (o old are list h n few).keys ≡ true → AllByRecursion (HasPlace (o old are list h n few)) names
      → are_in_order (sort_keys (drop n (all_elements (o old are list h n few) (map added_text names) (xs old are list h n few)))) ≡ true
  still_in_order names utf8 apart in_order have =
      let f = fits old are list h n few in
      let from = f.from in
      let end = f.end in
      let many = f.many in
      let parts : length (xs old are list h n few) ≡ length (map plain f.before) + length (map plain f.counted ++ f.others) = ap length f.are ∙ length-append (map plain f.before) (map plain f.counted ++ f.others) in
      let start = length-map f.before plain in
      ap are_in_order (keys_after (map added_text names) (texts_keyed names utf8) (o old are list h n few) (xs old are list h n few) keys_were (omega (arith, from, end, many)) (omega (arith, from, parts, start)))
      ∙ all_in_order names (o old are list h n few) in_order have apart

pub order-is-kept : OrderIsKept
order-is-kept old is id c found names utf8 steps after made done list is_list in_order have =
    let p = project old in
    let t = targets_stand p id c found in
    let ms = source_marks p c in
    let stand = (files_stand old is.parsed id c found).sources.stand in
    let h : Home p list = subst (Home p) (sym is_list) (sources_home p c t ms stand) in
    let n = first_sorted c.place list in
    let few = few_before old c t list in
    let new = new_names ms names in
    let put : all_stepped (sorted_in old.files p c.place list new) (plain_trees old) ≡ Some after =
    ap (λ l. all_stepped (sorted_in old.files p c.place l new) (plain_trees old)) is_list ∙ ap (λ s. all_stepped s (plain_trees old)) (sorted_was old.files p c names steps made) ∙ done in
    record {
      elements = all_elements (o old is.parsed list h n few) (map added_text new) (xs old is.parsed list h n few);
      are = elements_after old is.parsed list h n few (map added_text new) after put;
      in_order = still_in_order old is.parsed list h n few new (new_texts ms names utf8) (new_apart ms names) in_order have;
    }
