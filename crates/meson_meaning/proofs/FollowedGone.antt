-- Where sources are removed that are met where variables are followed, nothing else changes.
use Rattle.std.proofs.Common.{◌≡◌, ℕ, ◌+◌, ◌-◌, ◌<◌, ◌≤◌, List, [], ◌∷◌, ◌++◌, length, take, refl, sym, ap, subst, arith, ◌∙◌}
use Rattle.std.specs.Prelude.{Bool, true, false, if◌then◌else◌, slice_get, Option, Some, None, option_map}
use Rattle.std.specs.List.{All, Contains, cons_option, filter_map}
use Rattle.std.proofs.lemmas.List.{take_all, take_more}
use Rattle.std.proofs.lemmas.List.Elements.{All-cons, All-contains, All-contains_itself, All-head, All-map, All-nil, All-tail, All-weaker, recursion_from_All}
use Rattle.std.proofs.lemmas.Option.{get_or_from_slice_get, slice_get_within}
use Rattle.meson_lex.specs.declared.kinds.Span.{Span}
use Rattle.meson_calls.specs.declared.call.CallRef.{CallRef}
use Rattle.meson_calls.specs.Calls.{Call}
use Rattle.meson_calls.specs.Loading.{project}
use Rattle.meson_calls.specs.Project.{Placed, Project, child, place}
use Rattle.meson_following.specs.Following.{Item, Mark, empty, follow_marks, known, opaque}
use Rattle.meson_steps.specs.declared.source_change.SourceChange.TheVariants.{Remove}
use Rattle.meson_sources.specs.SourceEdits.{Spot}
use Rattle.meson_followed.specs.Effects.{NamesLeave}
use Rattle.meson_followed.specs.FollowedEdits.{Removal, removal_of}
use Rattle.meson_followed.specs.Laws.{IsNamed, met_sources}
use Rattle.meson_followed.specs.Sources.{MetSource, list_around, number_in_list, source_of, source_of_item, spot_at, spot_of_item}
use Rattle.meson_followed.proofs.MayBeDone.{changes-leave}
use Rattle.meson_meaning.specs.Followed.{IsListed}
use Rattle.meson_meaning.specs.FollowedRemovals.{OnlyFollowedGo, spots_of}
use Rattle.meson_meaning.proofs.ListedGone.{only_listed_go}

-- ---- an element is at the place of its list and one step more

last_step : (path : List ℕ) (n : ℕ) → slice_get path (length path - 1) ≡ Some n → path ≡ take (length path - 1) path ++ n ∷ []
last_step path n is =
    let front = length path - 1 in
    let within : front < length path = slice_get_within path front n is in
    let whole : length path ≤ front + 1 = omega (arith, within) in
    sym (take_all (front + 1) path whole) ∙ take_more path front n within ∙ ap (λ x. take front path ++ x ∷ []) (get_or_from_slice_get path front n n is)

spot_is_there : (q : CallRef) (s : Spot) → spot_at q ≡ Some s → q ≡ child s.list s.number
spot_is_there q s = go (number_in_list q) refl
  where
    go : (o : Option ℕ) → number_in_list q ≡ o → option_map (λ n. record { list = list_around q; number = n }) o ≡ Some s → q ≡ child s.list s.number
    go None none is = absurd cc
    go (Some n) last is =
        let at : Spot = record { list = list_around q; number = n } in
        let same : at ≡ s = cc in
        ap (place q.file) (last_step q.path.steps n last) ∙ ap (λ (t : Spot). child t.list t.number) same

-- ---- what holds of each that is kept

all_kept : {X Y : Type 0} (f : X → Option Y) (P : X → Type 0) (Q : Y → Type 0) → ((x : X) → P x → (y : Y) → f x ≡ Some y → Q y) → (xs : List X)
    → All P xs → All Q (filter_map f xs)
all_kept f P Q each [] all = All-nil Q
all_kept f P Q each (x ∷ xs) all = go (f x) refl (all_kept f P Q each xs (All-tail P x xs all))
  where
    go : (o : Option _) → f x ≡ o → All Q (filter_map f xs) → All Q (cons_option o (filter_map f xs))
    go None is more = more
    go (Some y) is more = All-cons Q y (filter_map f xs) (each x (All-head P x xs all) y is) more

-- ---- each removal is that of a source in a list

module _ (p : Project Span) (c : Placed (Call Span)) where
  abbrev marks : List (Mark Span)
  marks = follow_marks p c

  item_listed : (i : Item Span) → Contains marks (known i) → (s : Spot) → spot_of_item i ≡ Some s → IsListed p c s
  item_listed i met s is = go i.listed refl is
    where
      go : (b : Bool) → i.listed ≡ b → (if b then spot_at i.place else None) ≡ Some s → IsListed p c s
      go true listed is = record { item = i; is_met = met; is_listed = listed; stands = spot_is_there i.place s is }
      go false listed is = absurd cc

  abbrev SourceListed : MetSource → Type 0
  SourceListed x = (s : Spot) → x.spot ≡ Some s → IsListed p c s

  source_listed : (m : Mark Span) → Contains marks m → (x : MetSource) → source_of p c.place.file m ≡ Some x → SourceListed x
  source_listed (known i) met x is = let same : source_of_item p c.place.file i ≡ x = cc in subst SourceListed same (item_listed i met)
  source_listed opaque met x is = absurd cc
  source_listed (empty q w) met x is = absurd cc

  all_sources : All SourceListed (met_sources p c)
  all_sources = all_kept (source_of p c.place.file) (Contains marks) SourceListed source_listed marks (All-contains_itself marks)

  spot_removed : (x : MetSource) (r : Removal) → removal_of x ≡ Some r → x.spot ≡ Some r.spot
  spot_removed x r = go x.spot
    where
      go : (o : Option Spot) → option_map (λ spot. record { spot = spot; base = x.base; maker = x.maker }) o ≡ Some r → o ≡ Some r.spot
      go None is = absurd cc
      go (Some spot) is = cc

  removal_listed : (named : List (List ℕ)) (r : Removal) → IsNamed p c named r → IsListed p c r.spot
  removal_listed named r i = All-contains SourceListed (met_sources p c) i.source all_sources i.is_met r.spot (spot_removed i.source r i.is_element)

  all_listed : (named : List (List ℕ)) (gone : List Removal) → All (IsNamed p c named) gone → All (IsListed p c) (spots_of gone)
  all_listed named gone are =
      All-map (IsListed p c) (λ (r : Removal). r.spot) gone (All-weaker (IsNamed p c named) (λ r. IsListed p c r.spot) (removal_listed named) gone are)

pub only_followed_go : OnlyFollowedGo
only_followed_go old is id c found shared removed steps after made done =
    let p = project old in
    let left : NamesLeave old c shared removed after = changes-leave old is id c found (Remove removed) shared steps after made done in
    let listed = recursion_from_All (IsListed p c) (spots_of left.gone) (all_listed p c removed left.gone left.only_named) in
    record {
      gone = left.gone;
      only_named = left.only_named;
      all_named = left.all_named;
      missing = λ folders new same_trees same_names ch.
          only_listed_go old is id c found (spots_of left.gone) listed folders new (same_trees ∙ left.left) same_names ch;
    }
