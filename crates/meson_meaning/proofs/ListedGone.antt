-- Where sources are left out of lists, as they are met where variables are followed, nothing else changes.
use Rattle.std.proofs.Common.{◌≡◌, ℕ, List, [], ◌∷◌, ◌++◌, sym, ap, ap₂, subst, refl, ◌∙◌}
use Rattle.std.specs.List.{All, AllByRecursion}
use Rattle.std.proofs.lemmas.List.Elements.{All-cons, All-contains, All-nil}
use Rattle.meson_lex.specs.declared.kinds.Span.{Span}
use Rattle.meson_syntax.proofs.paths.Every.{Every}
use Rattle.meson_calls.specs.Calls.{Call}
use Rattle.meson_calls.specs.Loading.{project}
use Rattle.meson_calls.specs.Project.{Placed, Project, child}
use Rattle.meson_following.specs.Following.{follow_marks, known}
use Rattle.meson_sources.specs.Effects.{trees_without}
use Rattle.meson_sources.specs.SourceEdits.{Spot}
use Rattle.meson_sources.proofs.trees.Elements.{AreLevel, parsed_level}
use Rattle.meson_meaning.specs.Followed.{IsListed, OnlyListedGo}
use Rattle.meson_meaning.specs.Spots.{MayGo}
use Rattle.meson_meaning.proofs.FollowedMayGo.{ListedAt, MarkMayGo, followed_may}
use Rattle.meson_meaning.proofs.OnlyNames.{only_names_go}
use Rattle.meson_meaning.proofs.RemovedMissing.{trees_are}

-- ---- a place is the child of one place

pub record SameEnd (xs ys : List ℕ) (a b : ℕ) : Type 0 where
  pub front : xs ≡ ys
  pub last : a ≡ b

same_end : (xs ys : List ℕ) (a b : ℕ) → xs ++ a ∷ [] ≡ ys ++ b ∷ [] → SameEnd xs ys a b
same_end [] [] a b is = record { front = refl; last = cc }
same_end [] (y ∷ []) a b is = absurd cc
same_end [] (y ∷ z ∷ ys) a b is = absurd cc
same_end (x ∷ []) [] a b is = absurd cc
same_end (x ∷ w ∷ xs) [] a b is = absurd cc
same_end (x ∷ xs) (y ∷ ys) a b is =
    let more : xs ++ a ∷ [] ≡ ys ++ b ∷ [] = cc in
    let first : x ≡ y = cc in
    let rest = same_end xs ys a b more in
    record { front = ap₂ (λ z zs. z ∷ zs) first rest.front; last = rest.last }

same_spot : (s t : Spot) → child s.list s.number ≡ child t.list t.number → s ≡ t
same_spot s t is =
    let file : s.list.file ≡ t.list.file = ap (λ c. c.file) is in
    let ends = same_end s.list.path.steps t.list.path.steps s.number t.number (ap (λ c. c.path.steps) is) in
    let made : ℕ → List ℕ → ℕ → Spot = λ f steps n. record { list = record { file = f; path = record { steps = steps } }; number = n } in
    ap (λ f. made f s.list.path.steps s.number) file ∙ ap₂ (made t.list.file) ends.front ends.last

all_of : {X : Type 0} (P : X → Type 0) (xs : List X) → Every P xs → All P xs
all_of P [] all = All-nil P
all_of P (x ∷ xs) all = All-cons P x xs all.0 (all_of P xs all.1)

module _ (p : Project Span) (levels : AreLevel p) (c : Placed (Call Span)) (all : Every (MarkMayGo p levels) (follow_marks p c)) where
  listed_may : (s : Spot) → IsListed p c s → MayGo p s
  listed_may s i =
      let at : ListedAt p i.item.place = All-contains (MarkMayGo p levels) (follow_marks p c) (known i.item) (all_of (MarkMayGo p levels) (follow_marks p c) all) i.is_met i.is_listed in
      subst (MayGo p) (same_spot at.spot s (sym at.is_there ∙ i.stands)) at.may

  all_listed : (spots : List Spot) → AllByRecursion (IsListed p c) spots → AllByRecursion (MayGo p) spots
  all_listed [] listed = tt
  all_listed (s ∷ spots) listed = (listed_may s listed.0, all_listed spots listed.1)

pub only_listed_go : OnlyListedGo
only_listed_go old is id c found spots listed folders after same_trees same_names ch =
    let p = project old in
    let levels = parsed_level old.files old.parsed is.parsed in
    only_names_go p spots (all_listed p levels c (followed_may old is id c found) spots listed) folders after (same_trees ∙ ap (trees_without spots) (trees_are old.files old.parsed)) same_names ch
