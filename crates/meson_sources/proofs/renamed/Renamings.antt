-- Strings become others one after another: each step may be done, and what is there then are the trees with the new string in all these places.
use Rattle.meson_calls.specs.Calls as calls
use Rattle.meson_calls.specs.declared.refusal.Refusal.TheVariants.{ThereAlready}
use Rattle.meson_steps.proofs.StepsDoable.{step_doable, text_written}
use Rattle.meson_sources.specs.Effects.{is_one_of, NameChanges, places_named, trees_with}
use Rattle.meson_sources.specs.Exchanged.{Chosen, each_with, tree_with, under}
use Rattle.meson_sources.specs.SourceEdits.{renamed_at, renaming, sources_renamed}
use Rattle.meson_sources.proofs.Words.{All, All-set, Err, filter, if◌then◌else◌, nat_eq, Ok, option_and_then, option_map, Result, ◌&&◌, ◌||◌, [], ap, append-nil, ap₂}
use Rattle.meson_sources.proofs.Words.{arith, Bool, false, IsUtf8, List, map, None, Option, refl, Some, subst, suc, sym, true, zero, ℕ, ◌++◌, ◌∙◌, ◌∷◌, ◌≡◌, eq-eqb}
use Rattle.meson_sources.proofs.Words.{ne_eqb, then_ok, Span, nth, Expression, Nowhere, Plain, some-injective, Every, and-then-some, map-some, edited, Call, AreParsed}
use Rattle.meson_sources.proofs.Words.{IsProject, Loaded, project, once, sources_key, child, place, Placed, Project, CallRef, Refusal, fixed, in_list, Item, Mark}
use Rattle.meson_sources.proofs.Words.{Slot, items, opaque_count, source_marks, AreDoable, MayStandBetween, none, checked_names, plain_trees, all_stepped, Step}
use Rattle.meson_sources.proofs.Words.{string_of, trees_stand, once_was, then_was, all_nth, change_there, has_text, is_known, is_path, items_of, slice_set, Spot}
use Rattle.meson_sources.proofs.Words.{spot_of, spots_by, spots_named, spots_of}
use Rattle.meson_sources.proofs.gone.Named.{every_weaker, some_spots}
use Rattle.meson_sources.proofs.gone.Trees.{all_in, named_stand}
use Rattle.meson_sources.proofs.met.Standing.{AllStand, ItemFits, SlotFits, StringIn}
use Rattle.meson_sources.proofs.renamed.Nodes.{same_trees}
use Rattle.meson_sources.proofs.renamed.OneString.{OneMore, string_exchanged, string_put}
use Rattle.meson_sources.proofs.renamed.Staying.{string_stays}

-- ==== Where strings are exchanged.

one_more : (hp : List ℕ) (g h : Chosen) → ((p : List ℕ) → g p ≡ (is_path hp p || h p)) → OneMore hp g h
one_more [] g h is = is []
one_more (m ∷ path) g h is = (
  sym (is []),
  λ c other i p. (sym (is (c ∷ p) ∙ ap (λ b. (b && is_path path p) || h (c ∷ p)) (ne_eqb m c other))) i,
  one_more path (under m g) (under m h) (λ p. is (m ∷ p) ∙ ap (λ b. (b && is_path path p) || h (m ∷ p)) (eq-eqb m m refl)),
)

one_file : (w : Expression Nowhere) (ts : List Plain) (i : ℕ) (t now : Plain) → nth ts i ≡ Some t → (old new : ℕ → Chosen) → tree_with w (new i) now ≡ tree_with w (old i) t → ((j : ℕ) → (i ≡ j → ⊥) → new j ≡ old j)
    → each_with w new (slice_set ts i now) ≡ each_with w old ts
one_file w [] i t now there old new same others = absurd cc
one_file w (z ∷ ts) zero t now there old new same others =
    ap₂ (λ u us. u ∷ us) (same ∙ ap (tree_with w (old 0)) (sym (some-injective _ _ there))) (ap (λ g. each_with w g ts) (λ i j. (others (suc j) (λ equal. absurd (omega (arith, equal)))) i))
one_file w (z ∷ ts) (suc i) t now there old new same others =
    ap₂ (λ u us. u ∷ us) (ap (λ g. tree_with w g z) (others 0 (λ equal. absurd (omega (arith, equal)))))
    (one_file w ts i t now there (λ n. old (suc n)) (λ n. new (suc n)) same (λ j other. others (suc j) (λ equal. other (omega (arith, equal)))))

-- where the strings at spots stand
abbrev places_of : List Spot → List CallRef
places_of spots = map (λ s. child s.list s.number) spots

-- ==== One after another.

abbrev renamings : List ℕ → List Spot → List Step
renamings name spots = map (renaming name) spots

-- the steps may be done, and what they make
record ArePut (name : List ℕ) (spots : List Spot) (trees : List Plain) : Type 0 where
  doable : IsUtf8 name → AreDoable (renamings name spots) trees
  made : all_stepped (renamings name spots) trees ≡ Some (trees_with (string_of name) (places_of spots) trees)

are_put : (name : List ℕ) (spots : List Spot) (trees : List Plain) → All MayStandBetween trees → Every (StringIn trees) spots → ArePut name spots trees
are_put name [] trees all stand = record { doable = λ utf8. none trees; made = ap Some (sym (same_trees (string_of name) trees)) }
are_put name (s ∷ more) trees all stand =
    let w = string_of name in
    let there = stand.0 in
    let file = s.list.file in
    let path = s.list.path.steps in
    let k = s.number in
    let may = all_nth MayStandBetween trees file there.tree all there.is_tree in
    let p = string_put name there.tree path k may there.it there.stands there.is_string in
    let between = slice_set trees file p.now in
    let others = every_weaker (StringIn trees) (StringIn between) (λ t h. string_stays trees file there.tree p.now there.is_tree p.kind _ p.text _ (path ++ k ∷ []) p.becomes t h) more stand.1 in
    let rest = are_put name more between (All-set MayStandBetween trees file p.now p.may all) others in
    let now : ℕ → Chosen = λ i q. is_one_of (places_of more) (place i q) in
    let before : ℕ → Chosen = λ i q. is_one_of (places_of (s ∷ more)) (place i q) in
    let exchanged = string_exchanged name there.tree path k p (before file) (now file)
    (one_more (path ++ k ∷ []) (before file) (now file) (λ q. ap (λ b. (b && is_path (path ++ k ∷ []) q) || now file q) (eq-eqb file file refl))) in
    let elsewhere : (j : ℕ) → (file ≡ j → ⊥) → now j ≡ before j = λ j other i q. (sym (ap (λ b. (b && is_path (path ++ k ∷ []) q) || now j q) (ne_eqb file j other))) i in
    let same = one_file w trees file there.tree p.now there.is_tree before now exchanged elsewhere in
    record {
      doable = λ utf8. step_doable (renaming name s) (renamings name more) trees there.tree p.now there.is_tree p.is_now (text_written name utf8) all p.may (rest.doable utf8);
      made =
          ap (option_and_then (all_stepped (renamings name more))) (change_there (edited (renaming name s).edit) trees file there.tree p.now there.is_tree p.is_now)
          ∙ rest.made ∙ ap Some same;
    }

-- ==== The items of a name.

every_kept : {X : Type 0} (P : X → Type 0) (test : X → Bool) (xs : List X) → Every P xs → Every P (filter test xs)
every_kept P test [] all = tt
every_kept P test (x ∷ xs) all = elim (test x) as (λ b. Every P (if b then x ∷ filter test xs else filter test xs)) [
  | true ↦ (all.0, every_kept P test xs all.1)
  | false ↦ every_kept P test xs all.1
]

place_is : (slot : Slot) (q : CallRef) (s : Spot) → spot_of slot ≡ Some s → SlotFits slot q → child s.list s.number ≡ q
place_is (in_list c n) q s is fits = ap (λ (t : Spot). child t.list t.number) (sym (some-injective _ _ is)) ∙ sym fits
place_is fixed q s is fits = absurd cc

places_are : (is : List (Item Span)) (spots : List Spot) → spots_of is ≡ Some spots → Every ItemFits is → places_of spots ≡ map (λ i. i.place) is
places_are [] spots same fit = ap places_of (sym (some-injective _ _ same))
places_are (i ∷ more) spots same fit =
    let a = and-then-some (λ spot. option_map (λ spots. spot ∷ spots) (spots_of more)) (spot_of i.slot) spots same in
    let b = map-some (λ spots. a.0 ∷ spots) (spots_of more) spots a.2 in
    ap places_of (sym b.2) ∙ ap₂ (λ q qs. q ∷ qs) (place_is i.slot i.place a.0 a.1 fit.0) (places_are more b.0 b.1 fit.1)

by_places : (unknown : ℕ) (is : List (Item Span)) (spots : List Spot) → spots_by unknown is ≡ Ok spots → Every ItemFits is → places_of spots ≡ map (λ i. i.place) is
by_places unknown [] spots same fit = absurd cc
by_places unknown (i ∷ more) spots same fit = places_are (i ∷ more) spots (some_spots (spots_of (i ∷ more)) spots same) fit

named_places : (marks : List (Mark Span)) (name : List ℕ) (spots : List Spot) → spots_named marks (name ∷ []) ≡ Ok spots → Every ItemFits (items marks) → places_of spots ≡ places_named name marks
named_places marks name spots is fit =
    let a = then_was (spots_by (opaque_count marks) (items_of name marks)) (λ here. Ok (here ++ [])) spots is in
    let same : a.0 ++ [] ≡ spots = let e = a.2 in cc in
    ap places_of (sym same ∙ append-nil a.0) ∙ by_places (opaque_count marks) (items_of name marks) a.0 a.1 (every_kept ItemFits (has_text name) (items marks) fit)

-- ==== A name of sources that becomes another one.

record Renamed (marks : List (Mark Span)) (old new : List ℕ) (steps : List Step) : Type 0 where
  spots : List Spot
  are_spots : spots_named marks (old ∷ []) ≡ Ok spots
  fresh : is_known marks new ≡ false
  are : renamings new spots ≡ steps

renamed : (marks : List (Mark Span)) (old new : List ℕ) (steps : List Step) → renamed_at marks old new ≡ Ok steps → Renamed marks old new steps
renamed marks old new steps is =
    let a = then_was (spots_named marks (old ∷ [])) (λ spots. if is_known marks new then Err ThereAlready else Ok (renamings new spots)) steps is in
    go a.0 a.1 (is_known marks new) refl a.2
  where
    go : (spots : List Spot) → spots_named marks (old ∷ []) ≡ Ok spots → (b : Bool) → is_known marks new ≡ b → (if b then Err ThereAlready else Ok (renamings new spots)) ≡ Ok steps → Renamed marks old new steps
    go spots found true known made = absurd cc
    go spots found false known made = record { spots = spots; are_spots = found; fresh = known; are = cc }

module _ (l : Loaded) (parsed : AreParsed l.files l.parsed) (c : Placed (Call Span)) (all : AllStand (project l) (source_marks (project l) c)) (old new : List ℕ) (steps : List Step)
    (is : sources_renamed (project l) c old new ≡ Ok steps) where
  abbrev marks : List (Mark Span)
  marks = source_marks (project l) c

  abbrev trees : List Plain
  trees = plain_trees l

  by_marks : Renamed marks old new steps
  by_marks =
      let keys = calls.keyword sources_key c.it in
      let by : List (Mark Span) → Result (List Step) Refusal = λ ms. renamed_at ms old new in
      let a = then_was (checked_names (old ∷ new ∷ [])) (λ _. then_ok (once sources_key keys marks) by) steps is in
      let b = then_was (once sources_key keys marks) by steps a.2 in
      renamed marks old new steps (ap by (once_was sources_key keys marks b.0 b.1) ∙ b.2)

  put : (r : Renamed marks old new steps) → ArePut new r.spots trees
  put r = are_put new r.spots trees (trees_stand l.files l.parsed parsed) (all_in l r.spots (named_stand (project l) marks all.stand (old ∷ []) r.spots r.are_spots))

  pub may_be_renamed : IsUtf8 new → AreDoable steps trees
  may_be_renamed utf8 = let r = by_marks in subst (λ ss. AreDoable ss trees) r.are ((put r).doable utf8)

  pub name_changes : (after : List Plain) → all_stepped steps trees ≡ Some after → NameChanges marks old new trees after
  name_changes after done =
      let r = by_marks in
      let made = sym (ap (λ ss. all_stepped ss trees) r.are ∙ done) ∙ (put r).made in
      let now : after ≡ trees_with (string_of new) (places_of r.spots) trees = some-injective _ _ made in
      record { fresh = r.fresh; now = now ∙ ap (λ ps. trees_with (string_of new) ps trees) (named_places marks old r.spots r.are_spots all.fit) }
