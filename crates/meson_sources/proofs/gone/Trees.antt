-- Strings go from lists one after another: each removal may be done.
use Rattle.meson_calls.specs.Calls as calls
use Rattle.meson_syntax.specs.declared.operator.Bracket.TheVariants as bracket
use Rattle.meson_edit.proofs.sequences.Deepened.{removals-stay-within}
use Rattle.meson_sources.proofs.Words.{filter, All, if◌then◌else◌, nat_eq, Ok, option_and_then, option_map, Result, slice_set, ◌&&◌, ◌||◌, [], ap, ap₂, arith}
use Rattle.meson_sources.proofs.Words.{Bool, false, List, map, refl, Some, subst, suc, sym, true, zero, ℕ, ◌++◌, ◌∙◌, ◌∷◌, ◌≡◌, ◌≤◌, eq-eqb, ne_eqb, All-cons}
use Rattle.meson_sources.proofs.Words.{All-head, All-nil, All-set, All-tail, then_ok, Span, a_block, a_statement, an_expression, arguments_parts, listing_parts}
use Rattle.meson_sources.proofs.Words.{file_depth, Flagged, LevelListing, ListAt, nth, Nowhere, argument, Arguments, array, call, dictionary, evaluate, file}
use Rattle.meson_sources.proofs.Words.{Listing, listing, named, no_arguments, pair, Plain, plain, Bracket, child_nodes, some-injective, Every, and-then-some}
use Rattle.meson_sources.proofs.Words.{map-some, edited, element_removed, elements, Remove, with_elements, removals-keep-levels, AreParsed, Loaded, project}
use Rattle.meson_sources.proofs.Words.{once, sources_key, child, place, Project, CallRef, Refusal, by_each_child, empty, fixed, in_list, Item, known, Mark}
use Rattle.meson_sources.proofs.Words.{opaque, Slot, items, opaque_count, source_marks, AreDoable, MayStandBetween, none, one, checked_names, distinct}
use Rattle.meson_sources.proofs.Words.{plain_trees, all_stepped, Step, stepped, trees_stand, once_was, then_was, all_nth, change_there, element_spot, goes}
use Rattle.meson_sources.proofs.Words.{same_spot, trees_without, checked_extra, extra_marks, has_text, is_path, items_of, removal, removal_steps}
use Rattle.meson_sources.proofs.Words.{removals_after, removed_at, Spot, spot_of, spot_without, spots_by, spots_named, spots_of, block_without, each_without}
use Rattle.meson_sources.proofs.Words.{from_child, Gone, tree_without}
use Rattle.meson_sources.proofs.added.Homes.{checked_marks}
use Rattle.meson_sources.proofs.gone.Losses.{child_in}
use Rattle.meson_sources.proofs.gone.Named.{every_both, every_weaker, spots_apart, some_spots}
use Rattle.meson_sources.proofs.gone.Nodes.{left_list, node_without, nothing}
use Rattle.meson_sources.proofs.gone.OneElement.{Alone, element_goes}
use Rattle.meson_sources.proofs.gone.Places.{any_without, each_child}
use Rattle.meson_sources.proofs.gone.Spots.{or_with_none, Apart, AreApart, but_none}
use Rattle.meson_sources.proofs.gone.Twice.{left_without, moved_spot, moved_there, stays_there, trees_twice, SpotStays, moved_twice, spot_left, still_apart}
use Rattle.meson_sources.proofs.met.Standing.{SpotStands, StringIn, spot_in, RemovalsDoable, AllStand, SlotStands, MarkStands, SourcesMayBeRemoved}
use Rattle.meson_sources.proofs.met.Standing.{ExtrasMayBeRemoved}
use Rattle.meson_sources.proofs.met.Ways.{node_level}
use Rattle.meson_sources.proofs.trees.Elements.{Node}
use Rattle.meson_sources.proofs.trees.Scenes.{NodeIn}
use Rattle.meson_sources.proofs.trees.Skeletons.{blanks, fill, fill_list, filled, list_blanks, list_filled, skeleton, trailing_of}

-- ==== One string goes: its removal may be done, and what it leaves are the trees without that string.

-- ---- files

module _ (trees : List Plain) (stand : All MayStandBetween trees) where
  each_stays : (n : ℕ) (xs : List Node) → ((j : ℕ) (y : Node) → nth xs j ≡ Some y → any_without nothing y ≡ y) → each_child nothing n xs ≡ xs
  each_stays n [] all = refl
  each_stays n (x ∷ xs) all = ap₂ (λ y l. y ∷ l) (all 0 x refl) (each_stays (suc n) xs (λ j. all (suc j)))

  -- an empty list has no comma
  list_stays : (l : Listing Nowhere) (b : Bracket) → LevelListing l b → left_list (nothing []) (trailing_of l) (fill_list (list_blanks l) (listing_parts l)) ≡ l
  list_stays (listing s c list) b level = ap (with_elements (listing s c list)) (but_none (nothing []) (λ n. refl) (fill_list (blanks list) (arguments_parts list))) ∙ whole list level.0
    where
      whole : (xs : Arguments Nowhere) → Flagged c xs → with_elements (listing s c no_arguments) (fill_list (blanks xs) (arguments_parts xs)) ≡ listing s c xs
      whole no_arguments flagged = ap (λ z. listing s z no_arguments) (sym flagged)
      whole (argument (plain e) more) flagged = ap (listing s c) (list_filled (argument (plain e) more))
      whole (argument (named r x e) more) flagged = ap (listing s c) (list_filled (argument (named r x e) more))
      whole (argument (pair r e f) more) flagged = ap (listing s c) (list_filled (argument (pair r e f) more))

  abbrev Stays : CallRef → Node → Type 0
  Stays c x = NodeIn trees c x → any_without nothing x ≡ x

  with_children : (c : CallRef) (x : Node) → NodeIn trees c x → fill (left_list (nothing [])) (skeleton x) (child_nodes x) ≡ x
  with_children c (an_expression (array l)) h = ap (λ m. an_expression (array m)) (list_stays l bracket.Square (node_level trees stand c (array l) h))
  with_children c (an_expression (dictionary l)) h = ap (λ m. an_expression (dictionary m)) (list_stays l bracket.Curly (node_level trees stand c (dictionary l) h))
  with_children c (an_expression (call s x l)) h = ap (λ m. an_expression (call s x m)) (list_stays l bracket.Round (node_level trees stand c (call s x l) h))
  with_children c (a_statement (evaluate e)) h = filled (a_statement (evaluate e))
  with_children c x h = filled x

  node_stays : (c : CallRef) (x : Node) → Stays c x
  node_stays =
      by_each_child child Stays
      (λ c x children h.
      node_without nothing x ∙ ap (fill (left_list (nothing [])) (skeleton x)) (each_stays 0 (child_nodes x) (λ j y is. children j y is (child_in trees c x y j h is))) ∙ with_children c x h)

  tree_stays : (i : ℕ) (t : Plain) → nth trees i ≡ Some t → tree_without nothing t ≡ t
  tree_stays i (file s b) is =
      let same = node_stays (place i []) (a_block b) (record { tree = file s b; is_tree = is; is_node = refl }) in
      let whole : block_without nothing b ≡ b = cc in
      ap (file s) whole

all_stay : (ts : List Plain) → ((i : ℕ) (t : Plain) → nth ts i ≡ Some t → tree_without nothing t ≡ t) → each_without (λ n. nothing) ts ≡ ts
all_stay [] all = refl
all_stay (t ∷ ts) all = ap₂ (λ u us. u ∷ us) (all 0 t refl) (all_stay ts (λ i. all (suc i)))

pub nothing_gone : (ts : List Plain) → All MayStandBetween ts → each_without (λ n. nothing) ts ≡ ts
nothing_gone ts all = all_stay ts (tree_stays ts all)

one_file : (ts : List Plain) (i : ℕ) (t now : Plain) → nth ts i ≡ Some t → (old new : ℕ → Gone) → tree_without (new i) now ≡ tree_without (old i) t → ((j : ℕ) → (i ≡ j → ⊥) → new j ≡ old j)
    → each_without new (slice_set ts i now) ≡ each_without old ts
one_file [] i t now there old new same others = absurd cc
one_file (z ∷ ts) zero t now there old new same others =
    ap₂ (λ u us. u ∷ us) (same ∙ ap (tree_without (old 0)) (sym (some-injective _ _ there))) (ap (λ g. each_without g ts) (λ i j. (others (suc j) (λ equal. absurd (omega (arith, equal)))) i))
one_file (z ∷ ts) (suc i) t now there old new same others =
    ap₂ (λ u us. u ∷ us) (ap (λ g. tree_without g z) (others 0 (λ equal. absurd (omega (arith, equal)))))
    (one_file ts i t now there (λ n. old (suc n)) (λ n. new (suc n)) same (λ j other. others (suc j) (λ equal. other (omega (arith, equal)))))

-- an element by its path and its number
alone : (path : List ℕ) (k : ℕ) (g : Gone) → ((p : List ℕ) (n : ℕ) → g p n ≡ (is_path path p && nat_eq k n)) → Alone path k g
alone [] k g is = (is [] k ∙ eq-eqb k k refl, λ n other. is [] n ∙ ne_eqb k n other, λ c i p n. (sym (is (c ∷ p) n)) i)
alone (m ∷ path) k g is = (
  λ i n. (sym (is [] n)) i,
  λ c other i p n. (sym (is (c ∷ p) n ∙ ap (λ b. (b && is_path path p) && nat_eq k n) (ne_eqb m c other))) i,
  alone path k (from_child m g) (λ p n. is (m ∷ p) n ∙ ap (λ b. (b && is_path path p) && nat_eq k n) (eq-eqb m m refl)),
)

-- ---- one string goes

-- The tree without the string at a spot.
record Without (trees : List Plain) (s : Spot) (there : StringIn trees s) : Type 0 where
  now : Plain
  is_now : edited (Remove s.list.path.steps s.number) there.tree ≡ Some now
  may : MayStandBetween now

module _ (trees : List Plain) (all : All MayStandBetween trees) (s : Spot) (there : StringIn trees s) where
  abbrev path : List ℕ
  path = s.list.path.steps

  edits : Without trees s there
  edits =
      let q = there.stands.place in
      let n = s.number in
      let may = all_nth MayStandBetween trees s.list.file there.tree all there.is_tree in
      let now = q.back (with_elements q.list (element_removed n (elements q.list) there.it)) in
      let is : edited (Remove path n) there.tree ≡ Some now =
      ap (option_and_then (λ (p : ListAt _). option_map (λ list. p.back (with_elements p.list list)) (option_map (element_removed n (elements p.list)) (nth (elements p.list) n)))) there.stands.is_place
      ∙ ap (λ o. option_map (λ list. q.back (with_elements q.list list)) (option_map (element_removed n (elements q.list)) o)) there.stands.is_element in
      let deep = removals-stay-within path n there.tree now is in
      let shallow : file_depth now ≤ 65 = omega (arith, deep, may.1) in
      record { now = now; is_now = is; may = (removals-keep-levels path n there.tree now may.0 is, shallow) }

  abbrev gone : ℕ → Gone
  gone i p n = goes (s ∷ []) (place i p) n

  here : (p : List ℕ) (n : ℕ) → gone s.list.file p n ≡ (is_path path p && nat_eq s.number n)
  here p n = ap (λ b. (b && (is_path path p && nat_eq s.number n)) || false) (eq-eqb s.list.file s.list.file refl) ∙ or_with_none (is_path path p && nat_eq s.number n)

  pub one_goes : (stepped (removal s) trees ≡ Some (trees_without (s ∷ []) trees)) × All MayStandBetween (trees_without (s ∷ []) trees)
  one_goes =
      let e = edits in
      let between = slice_set trees s.list.file e.now in
      let stand = All-set MayStandBetween trees s.list.file e.now e.may all in
      let is : between ≡ trees_without (s ∷ []) trees =
      sym (nothing_gone between stand)
      ∙ one_file trees s.list.file there.tree e.now there.is_tree gone (λ n. nothing) (element_goes there.tree e.now path s.number e.is_now (gone s.list.file) (alone path s.number (gone s.list.file) here))
      (λ j other i p n. (sym (ap (λ b. (b && (is_path path p && nat_eq s.number n)) || false) (ne_eqb s.list.file j other))) i) in
      (change_there (edited (Remove path s.number)) trees s.list.file there.tree e.now there.is_tree e.is_now ∙ ap Some is, subst (All MayStandBetween) is stand)

pub all_in : (old : Loaded) (spots : List Spot) → All (SpotStands (project old)) spots → Every (StringIn (plain_trees old)) spots
all_in old [] all = tt
all_in old (s ∷ more) all = (spot_in old s (All-head (SpotStands (project old)) s more all), all_in old more (All-tail (SpotStands (project old)) s more all))

-- ==== Strings go from lists one after another: each removal may be done, and what is left is the trees without all of them.

-- Strings at some spots have gone, and those at others are still to go.
pub record Going (trees : List Plain) (gone more : List Spot) : Type 0 where
  pub gone_there : Every (StringIn trees) gone
  pub more_there : Every (StringIn trees) more
  pub gone_apart : AreApart gone
  pub more_apart : AreApart more
  pub others : Every (λ s. Every (Apart s) gone) more

pub at_first : (trees : List Plain) (spots : List Spot) → Every (StringIn trees) spots → AreApart spots → Going trees [] spots
at_first trees spots are apart =
    record { gone_there = tt; more_there = are; gone_apart = tt; more_apart = apart; others = every_weaker (StringIn trees) (λ s. Every (Apart s) []) (λ s there. tt) spots are }

pub going_on : (trees : List Plain) (gone : List Spot) (s : Spot) (more : List Spot) → Going trees gone (s ∷ more) → Going trees (s ∷ gone) more
going_on trees gone s more g = record {
  gone_there = (g.more_there.0, g.gone_there);
  more_there = g.more_there.1;
  gone_apart = (g.others.0, g.gone_apart);
  more_apart = g.more_apart.1;
  others =
      every_both (Apart s) (λ t. Every (Apart t) gone) (λ t. Every (Apart t) (s ∷ gone)) (λ t apart others. ((λ same. apart (sym same.0, sym same.1, sym same.2)), others)) more g.more_apart.0 g.others.1;
}

-- those that have gone then
abbrev pub also_gone : List Spot → List Spot → List Spot
also_gone [] gone = gone
also_gone (s ∷ more) gone = also_gone more (s ∷ gone)

one_of_three : (a b c : Bool) → (b || (a || c)) ≡ ((a || b) || c)
one_of_three true true c = refl
one_of_three true false c = refl
one_of_three false b c = refl

also_goes : (spots gone : List Spot) (c : CallRef) (n : ℕ) → goes (also_gone spots gone) c n ≡ (goes spots c n || goes gone c n)
also_goes [] gone c n = refl
also_goes (s ∷ more) gone c n = also_goes more (s ∷ gone) c n ∙ one_of_three (same_spot s (element_spot c n)) (goes more c n) (goes gone c n)

pub in_any_order : (spots : List Spot) → goes (also_gone spots []) ≡ goes spots
in_any_order spots i c n = (also_goes spots [] c n ∙ or_with_none (goes spots c n)) i

module _ (trees : List Plain) (all : All MayStandBetween trees) where
  one_more : (gone : List Spot) (s : Spot) (more : List Spot) → Going trees gone (s ∷ more) → All MayStandBetween (trees_without gone trees)
      → (stepped (removal (spot_without gone s)) (trees_without gone trees) ≡ Some (trees_without (s ∷ gone) trees)) × All MayStandBetween (trees_without (s ∷ gone) trees)
  one_more gone s more g stand =
      let stays = stays_there trees all gone g.gone_there s g.more_there.0 g.others.0 in
      let o = one_goes (trees_without gone trees) stand (moved_spot gone s) (moved_there trees all gone g.gone_there s g.more_there.0 stays.1) in
      let twice = trees_twice trees all gone g.gone_there (s ∷ []) (stays, tt) in
      (ap (λ t. stepped (removal t) (trees_without gone trees)) (sym (left_without gone g.gone_apart s)) ∙ o.0 ∙ ap Some twice, subst (All MayStandBetween) twice o.1)

  all_go : (more gone : List Spot) → Going trees gone more → All MayStandBetween (trees_without gone trees)
      → AreDoable (removals_after gone more) (trees_without gone trees) × (all_stepped (removals_after gone more) (trees_without gone trees) ≡ Some (trees_without (also_gone more gone) trees))
  all_go [] gone g stand = (none (trees_without gone trees), refl)
  all_go (s ∷ more) gone g stand =
      let o = one_more gone s more g stand in
      let steps = removals_after (s ∷ gone) more in
      let rest = all_go more (s ∷ gone) (going_on trees gone s more g) o.1 in (
        one (removal (spot_without gone s)) steps (trees_without gone trees) (trees_without (s ∷ gone) trees) tt o.0 o.1 rest.0,
        ap (option_and_then (all_stepped steps)) o.0 ∙ rest.1,
      )

  from_first : (spots : List Spot) → Every (StringIn trees) spots → AreApart spots → AreDoable (removal_steps spots) trees × (all_stepped (removal_steps spots) trees ≡ Some (trees_without spots trees))
  from_first spots are apart =
      let none_gone = nothing_gone trees all in
      let r = all_go spots [] (at_first trees spots are apart) (subst (All MayStandBetween) (sym none_gone) all) in (
        subst (AreDoable (removal_steps spots)) none_gone r.0,
        ap (all_stepped (removal_steps spots)) (sym none_gone) ∙ r.1 ∙ ap (λ g. Some (each_without (λ file path n. g (place file path) n) trees)) (in_any_order spots),
      )

pub trees_left : (spots : List Spot) (trees after : List Plain) → All MayStandBetween trees → Every (StringIn trees) spots → AreApart spots → all_stepped (removal_steps spots) trees ≡ Some after
    → after ≡ trees_without spots trees
trees_left spots trees after all are apart done = some-injective _ _ (sym done ∙ (from_first trees all spots are apart).1)

pub removals_doable : RemovalsDoable
removals_doable old parsed spots all apart = (from_first (plain_trees old) (trees_stand old.files old.parsed parsed) spots (all_in old spots all) apart).0

-- ==== Removals of some elements, and then of others from where they stand then, are the removals of all.

first_then : (here gone later : List Spot) → removals_after gone (here ++ later) ≡ removals_after gone here ++ removals_after (also_gone here gone) later
first_then [] gone later = refl
first_then (s ∷ here) gone later = ap (λ steps. removal (spot_without gone s) ∷ steps) (first_then here (s ∷ gone) later)

gone_through : (trees : List Plain) (here gone later : List Spot) → Going trees gone (here ++ later) → Going trees (also_gone here gone) later
gone_through trees [] gone later g = g
gone_through trees (s ∷ here) gone later g = gone_through trees here (s ∷ gone) later (going_on trees gone s (here ++ later) g)

module _ (trees : List Plain) (gone : List Spot) where
  moved_apart : (s : Spot) → SpotStays gone s → (more : List Spot) → Every (SpotStays gone) more → Every (Apart s) (more ++ gone) → Every (Apart (moved_spot gone s)) (map (moved_spot gone) more)
  moved_apart s stays [] every apart = tt
  moved_apart s stays (t ∷ more) every apart = (still_apart gone s t stays every.0 apart.0, moved_apart s stays more every.1 apart.1)

  -- the removals of the others, each from where it stands then
  then_moved : (later more : List Spot) → Going trees (more ++ gone) later → Every (SpotStays gone) later → Every (SpotStays gone) more → AreApart (map (moved_spot gone) more)
      → removals_after (more ++ gone) later ≡ removals_after (map (moved_spot gone) more) (map (moved_spot gone) later)
  then_moved [] more g stay every apart = refl
  then_moved (s ∷ later) more g stay every apart =
      ap₂ (λ t steps. removal t ∷ steps)
      (sym (left_without (more ++ gone) g.gone_apart s) ∙ moved_twice gone more every s stay.0 ∙ left_without (map (moved_spot gone) more) apart (moved_spot gone s))
      (then_moved later (s ∷ more) (going_on trees (more ++ gone) s later g) stay.1 (stay.0, every) (moved_apart s stay.0 more every g.others.0, apart))

pub removals_join : (trees : List Plain) → All MayStandBetween trees → (here later : List Spot) → AreApart here → Every (StringIn trees) (here ++ later) → AreApart (here ++ later)
    → removal_steps (here ++ later) ≡ removal_steps here ++ removal_steps (map (spot_without here) later)
removals_join trees stand here later apart_here are apart =
    let gone = also_gone here [] in
    let g = gone_through trees here [] later (at_first trees (here ++ later) are apart) in
    let stay = every_both (StringIn trees) (λ s. Every (Apart s) gone) (SpotStays gone) (λ s there others. stays_there trees stand gone g.gone_there s there others) later g.more_there g.others in
    first_then here [] later
    ∙ ap (λ steps. removal_steps here ++ steps)
    (then_moved trees gone later [] g stay tt tt ∙ ap (λ f. removal_steps (map (spot_left f) later)) (in_any_order here) ∙ ap (λ f. removal_steps (map f later)) (λ i s. (left_without here apart_here s) i))

-- ==== The spots of names are those of items that stand, so that sources and extra files may be removed.

-- ---- steps that went well

ok-injective : {X E : Type 0} (x y : X) → ◌≡◌ {A = Result X E} (Ok x) (Ok y) → x ≡ y
ok-injective x y same = cc

-- ---- what holds of all elements of a list

module _ {X : Type 0} (P : X → Type 0) where
  all_kept : (test : X → Bool) (xs : List X) → All P xs → All P (filter test xs)
  all_kept test [] all = All-nil P
  all_kept test (x ∷ xs) all = elim (test x) as (λ b. All P (if b then x ∷ filter test xs else filter test xs)) [
    | true ↦ All-cons P x (filter test xs) (All-head P x xs all) (all_kept test xs (All-tail P x xs all))
    | false ↦ all_kept test xs (All-tail P x xs all)
  ]

  all_both : (xs ys : List X) → All P xs → All P ys → All P (xs ++ ys)
  all_both [] ys all more = more
  all_both (x ∷ xs) ys all more = All-cons P x (xs ++ ys) (All-head P x xs all) (all_both xs ys (All-tail P x xs all) more)

-- ---- spots of items that stand

module _ (p : Project Span) where
  abbrev ItemStands : Item Span → Type 0
  ItemStands i = SlotStands p i.slot

  items_stand : (marks : List (Mark Span)) → All (MarkStands p) marks → All ItemStands (items marks)
  items_stand [] all = All-nil ItemStands
  items_stand (known i ∷ marks) all = All-cons ItemStands i (items marks) (All-head (MarkStands p) (known i) marks all) (items_stand marks (All-tail (MarkStands p) (known i) marks all))
  items_stand (opaque ∷ marks) all = items_stand marks (All-tail (MarkStands p) opaque marks all)
  items_stand (empty c ∷ marks) all = items_stand marks (All-tail (MarkStands p) (empty c) marks all)

  slot_stands : (slot : Slot) (s : Spot) → spot_of slot ≡ Some s → SlotStands p slot → SpotStands p s
  slot_stands (in_list c n) s is stands = subst (SpotStands p) (some-injective _ _ is) stands
  slot_stands fixed s is stands = absurd cc

  spots_stand : (is : List (Item Span)) (spots : List Spot) → spots_of is ≡ Some spots → All ItemStands is → All (SpotStands p) spots
  spots_stand [] spots same all = subst (All (SpotStands p)) (some-injective _ _ same) (All-nil (SpotStands p))
  spots_stand (i ∷ more) spots same all =
      let a = and-then-some (λ spot. option_map (λ spots. spot ∷ spots) (spots_of more)) (spot_of i.slot) spots same in
      let b = map-some (λ spots. a.0 ∷ spots) (spots_of more) spots a.2 in
      subst (All (SpotStands p)) b.2
      (All-cons (SpotStands p) a.0 b.0 (slot_stands i.slot a.0 a.1 (All-head ItemStands i more all)) (spots_stand more b.0 b.1 (All-tail ItemStands i more all)))

  by_stand : (unknown : ℕ) (is : List (Item Span)) (spots : List Spot) → spots_by unknown is ≡ Ok spots → All ItemStands is → All (SpotStands p) spots
  by_stand unknown [] spots same all = absurd cc
  by_stand unknown (i ∷ more) spots same all = spots_stand (i ∷ more) spots (some_spots (spots_of (i ∷ more)) spots same) all

  pub named_stand : (marks : List (Mark Span)) → All (MarkStands p) marks → (names : List (List ℕ)) (spots : List Spot) → spots_named marks names ≡ Ok spots → All (SpotStands p) spots
  named_stand marks all [] spots is = subst (All (SpotStands p)) (ok-injective [] spots is) (All-nil (SpotStands p))
  named_stand marks all (name ∷ more) spots is =
      let a = then_was (spots_by (opaque_count marks) (items_of name marks)) (λ here. then_ok (spots_named marks more) (λ later. Ok (here ++ later))) spots is in
      let b = then_was (spots_named marks more) (λ later. Ok (a.0 ++ later)) spots a.2 in
      subst (All (SpotStands p)) (ok-injective (a.0 ++ b.0) spots b.2)
      (all_both (SpotStands p) a.0 b.0
      (by_stand (opaque_count marks) (items_of name marks) a.0 a.1 (all_kept ItemStands (has_text name) (items marks) (items_stand marks all)))
      (named_stand marks all more b.0 b.1))

-- ---- the steps

module _ (old : Loaded) (parsed : AreParsed old.files old.parsed) where
  abbrev spots_steps : List (Mark Span) → List (List ℕ) → Result (List Step) Refusal
  spots_steps marks names = removed_at (spots_named marks (distinct names))

  steps_doable : (marks : List (Mark Span)) → AllStand (project old) marks → (names : List (List ℕ)) (steps : List Step) → spots_steps marks names ≡ Ok steps → AreDoable steps (plain_trees old)
  steps_doable marks all names steps is =
      let found = then_was (spots_named marks (distinct names)) (λ spots. Ok (removal_steps spots)) steps is in
      subst (λ ss. AreDoable ss (plain_trees old)) (ok-injective (removal_steps found.0) steps found.2)
      (removals_doable old parsed found.0 (named_stand (project old) marks all.stand (distinct names) found.0 found.1) (spots_apart (project old) marks all names found.0 found.1))

pub sources_may_be_removed : SourcesMayBeRemoved
sources_may_be_removed old parsed c there all names utf8 steps is =
    let p = project old in
    let marks = source_marks p c in
    let keys = calls.keyword sources_key c.it in
    let a = then_was (checked_names names) (λ _. then_ok (once sources_key keys marks) (λ ms. spots_steps old parsed ms names)) steps is in
    let b = then_was (once sources_key keys marks) (λ ms. spots_steps old parsed ms names) steps a.2 in
    let same = once_was sources_key keys marks b.0 b.1 in
    steps_doable old parsed marks all names steps (ap (λ ms. spots_steps old parsed ms names) same ∙ b.2)

pub extras_may_be_removed : ExtrasMayBeRemoved
extras_may_be_removed old parsed c there all names utf8 steps is =
    let p = project old in
    let a = then_was (checked_extra p c names) (λ ms. spots_steps old parsed ms names) steps is in
    let same = checked_marks p c names a.0 a.1 in
    steps_doable old parsed (extra_marks p c) all names steps (ap (λ ms. spots_steps old parsed ms names) same ∙ a.2)
