-- The names of keyword arguments that are put at their names rise, and each has its value.
use Rattle.std.proofs.Common.{◌≡◌, ◌≢◌, ℕ, suc, List, [], ◌∷◌, Some, Ordering, Less, Equal, Greater, nat_cmp, refl, ap, ◌∙◌, arith}
use Rattle.std.specs.Prelude.{All}
use Rattle.std.specs.Cmp.Lexicographic.{slice_cmp}
use Rattle.std.specs.List.{AllByRecursion, AllPairs}
use Rattle.std.specs.List.Sorted.{IsStrictlySortedBy}
use Rattle.std.specs.Ordering.{match_ordering, ordering_reverse}
use Rattle.std.proofs.lemmas.Cmp.{nat_list_cmp_total}
use Rattle.std.proofs.lemmas.List.Elements.{All-cons, All-head, All-nil, All-tail}
use Rattle.serde_json.specs.Data.{Data, Members, no_members, member, put}
use Rattle.serde_json.specs.Find.{get_member}
use Rattle.serde_json.proofs.Views.{get_member-put, get_member-put_other}
use Rattle.meson_details.specs.declared.details.Shown.{Shown}
use Rattle.meson_listing.specs.Entries.{put_each, shown_data}
use Rattle.meson_listing.specs.Laws.{NamesRise, member_names}

-- ---- names that rise

abbrev Above : List ℕ → List (List ℕ) → Type 0
Above name = AllByRecursion (λ other. slice_cmp nat_cmp name other ≡ Less)

abbrev Rise : List (List ℕ) → Type 0
Rise = IsStrictlySortedBy (slice_cmp nat_cmp)

all_above : (x y : List ℕ) (zs : List (List ℕ)) → slice_cmp nat_cmp x y ≡ Less → Above y zs → Above x zs
all_above x y [] below above = tt
all_above x y (z ∷ zs) below above = (nat_list_cmp_total.trans x y z below above.0, all_above x y zs below above.1)

-- of what is put at a name, by where it stands beside the first one
module _ (k : List ℕ) (d : Data) (l : List ℕ) (e : Data) (ms : Members) where
  abbrev placed : Ordering → Members
  placed o = match_ordering o (member k d (member l e ms)) (member l d ms) (member l e (put k d ms))

  above_placed : (x : List ℕ) (o : Ordering) → slice_cmp nat_cmp x k ≡ Less → Above x (l ∷ member_names ms) → Above x (member_names (put k d ms)) → Above x (member_names (placed o))
  above_placed x Less below above later = (below, above)
  above_placed x Equal below above later = above
  above_placed x Greater below above later = (above.0, later)

  rise_placed : (o : Ordering) → slice_cmp nat_cmp k l ≡ o → Rise (l ∷ member_names ms) → Rise (member_names (put k d ms)) → (slice_cmp nat_cmp l k ≡ Less → Above l (member_names (put k d ms))) → Rise (member_names (placed o))
  unfolding IsStrictlySortedBy
  rise_placed Less is rise later above = ((is, all_above k l (member_names ms) is rise.0), rise)
  rise_placed Equal is rise later above = rise
  rise_placed Greater is rise later above = (above (nat_list_cmp_total.antisymm l k ∙ ap ordering_reverse is), later)

put_above : (x k : List ℕ) (d : Data) (ms : Members) → slice_cmp nat_cmp x k ≡ Less → Above x (member_names ms) → Above x (member_names (put k d ms))
put_above x k d no_members below above = (below, tt)
put_above x k d (member l e ms) below above = above_placed k d l e ms x (slice_cmp nat_cmp k l) below above (put_above x k d ms below above.1)

put_rises : (k : List ℕ) (d : Data) (ms : Members) → Rise (member_names ms) → Rise (member_names (put k d ms))
unfolding IsStrictlySortedBy
put_rises k d no_members rise = (tt, tt)
put_rises k d (member l e ms) rise = rise_placed k d l e ms (slice_cmp nat_cmp k l) refl rise (put_rises k d ms rise.1) (λ below. put_above l k d ms below rise.0)

all_rise : (pairs : List (List ℕ × Shown)) (ms : Members) → Rise (member_names ms) → Rise (member_names (put_each ms pairs))
all_rise [] ms rise = rise
all_rise (p ∷ pairs) ms rise = all_rise pairs (put p.0 (shown_data p.1) ms) (put_rises p.0 (shown_data p.1) ms rise)

nothing_rises : Rise (member_names no_members)
unfolding IsStrictlySortedBy
nothing_rises = tt

-- ---- each name has its value

abbrev Apart : List ℕ → List ℕ × Shown → Type 0
Apart name p = name ≢ p.0

stays : (name : List ℕ) (pairs : List (List ℕ × Shown)) (ms : Members) → All (Apart name) pairs → get_member name (put_each ms pairs) ≡ get_member name ms
stays name [] ms apart = refl
stays name (p ∷ pairs) ms apart =
    stays name pairs (put p.0 (shown_data p.1) ms) (All-tail (Apart name) p pairs apart)
    ∙ get_member-put_other name p.0 (shown_data p.1) ms (All-head (Apart name) p pairs apart)

abbrev Has : Members → List ℕ × Shown → Type 0
Has ms p = get_member p.0 ms ≡ Some (shown_data p.1)

all_there : (pairs : List (List ℕ × Shown)) (ms : Members) → AllPairs (λ p q. p.0 ≢ q.0) pairs → All (Has (put_each ms pairs)) pairs
all_there [] ms apart = All-nil (Has ms)
all_there (p ∷ pairs) ms apart =
    let now = put p.0 (shown_data p.1) ms in
    let first : All (Apart p.0) pairs = λ k d within. apart 0 (suc k) d (omega arith) (omega (arith, within)) in
    let others : AllPairs (λ p q. p.0 ≢ q.0) pairs = λ i j d less within. apart (suc i) (suc j) d (omega (arith, less)) (omega (arith, within)) in
    All-cons (Has (put_each now pairs)) p pairs (stays p.0 pairs now first ∙ get_member-put p.0 (shown_data p.1) ms) (all_there pairs now others)

pub names_rise : NamesRise
names_rise pairs = record { rising = all_rise pairs no_members nothing_rises; each = λ apart. all_there pairs no_members apart }
