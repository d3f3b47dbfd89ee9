-- Elements of which each is kept once.
use Rattle.std.proofs.Common.{◌≡◌, List, [], ◌∷◌, ◌++◌, refl, sym, ap, ◌∙◌}
use Rattle.std.specs.Prelude.{Bool, true, false, ◌||◌, if◌then◌else◌}
use Rattle.std.specs.List.{All, list_any}
use Rattle.std.proofs.Math.Bool.{or_assoc}
use Rattle.std.proofs.lemmas.Bool.{or_left, or_right}
use Rattle.std.proofs.lemmas.List.Elements.{All-cons, All-head, All-nil, All-tail}
use Rattle.std.proofs.lemmas.List.Folds.{list_any-append}
use Rattle.meson_syntax.specs.Tree.{Plain}
use Rattle.meson_syntax.proofs.paths.Every.{Every}
use Rattle.meson_calls.specs.Project.{place}
use Rattle.meson_sources.specs.Effects.{element_spot, same_spot, trees_without}
use Rattle.meson_sources.specs.Without.{each_without}
use Rattle.meson_sources.specs.SourceEdits.{Spot}
use Rattle.meson_sources.proofs.gone.Spots.{Apart, AreApart, apart_of, or_with_none, same_one}
use Rattle.meson_followed.specs.FollowedEdits.{each_once}

-- ---- what holds of each

module _ {X : Type 0} (P : X → Type 0) where
  front : (xs ys : List X) → Every P (xs ++ ys) → Every P xs
  front [] ys all = tt
  front (x ∷ xs) ys all = (all.0, front xs ys all.1)

  last_one : (xs : List X) (y : X) → Every P (xs ++ y ∷ []) → P y
  last_one [] y all = all.0
  last_one (x ∷ xs) y all = last_one xs y all.1

every_both : {X : Type 0} (P Q : X → Type 0) (xs : List X) → Every P xs → Every Q xs → Every (λ x. P x × Q x) xs
every_both P Q [] ps qs = tt
every_both P Q (x ∷ xs) ps qs = ((ps.0, qs.0), every_both P Q xs ps.1 qs.1)

-- ---- those that are kept are apart

not_either : (a b : Bool) → (a || b) ≡ false → (a ≡ false) × (b ≡ false)
not_either true b is = absurd cc
not_either false b is = (refl, is)

none_same : (s : Spot) (seen : List Spot) → list_any (same_spot s) seen ≡ false → Every (λ t. Apart t s) seen
none_same s [] none = tt
none_same s (t ∷ seen) none =
    let both = not_either (same_spot s t) (list_any (same_spot s) seen) none in
    (apart_of t s both.0, none_same s seen both.1)

-- each that was seen is apart from those that are kept
seen_apart : (more seen : List Spot) → Every (λ t. Every (Apart t) (each_once seen more)) seen
seen_apart [] [] = tt
seen_apart [] (t ∷ seen) = (tt, seen_apart [] seen)
seen_apart (s ∷ more) seen = go (list_any (same_spot s) seen) refl (seen_apart more seen) (seen_apart more (seen ++ s ∷ []))
  where
    go : (b : Bool) → list_any (same_spot s) seen ≡ b → Every (λ t. Every (Apart t) (each_once seen more)) seen
        → Every (λ t. Every (Apart t) (each_once (seen ++ s ∷ []) more)) (seen ++ s ∷ [])
        → Every (λ t. Every (Apart t) (if b then each_once seen more else s ∷ each_once (seen ++ s ∷ []) more)) seen
    go true met skipped kept = skipped
    go false new skipped kept =
        every_both (λ t. Apart t s) (λ t. Every (Apart t) (each_once (seen ++ s ∷ []) more)) seen (none_same s seen new)
        (front (λ t. Every (Apart t) (each_once (seen ++ s ∷ []) more)) seen (s ∷ []) kept)

pub once_apart : (seen more : List Spot) → AreApart (each_once seen more)
once_apart seen [] = tt
once_apart seen (s ∷ more) = go (list_any (same_spot s) seen) (once_apart seen more) (once_apart (seen ++ s ∷ []) more)
  where
    go : (b : Bool) → AreApart (each_once seen more) → AreApart (each_once (seen ++ s ∷ []) more)
        → AreApart (if b then each_once seen more else s ∷ each_once (seen ++ s ∷ []) more)
    go true skipped kept = skipped
    go false skipped kept = (last_one (λ t. Every (Apart t) (each_once (seen ++ s ∷ []) more)) seen s (seen_apart more (seen ++ s ∷ [])), kept)

-- ---- what holds of all holds of those that are kept

pub once_all : (P : Spot → Type 0) (seen spots : List Spot) → All P spots → All P (each_once seen spots)
once_all P seen [] all = All-nil P
once_all P seen (s ∷ more) all =
    go (list_any (same_spot s) seen) (once_all P seen more (All-tail P s more all)) (once_all P (seen ++ s ∷ []) more (All-tail P s more all))
  where
    go : (b : Bool) → All P (each_once seen more) → All P (each_once (seen ++ s ∷ []) more) → All P (if b then each_once seen more else s ∷ each_once (seen ++ s ∷ []) more)
    go true skipped kept = skipped
    go false skipped kept = All-cons P s (each_once (seen ++ s ∷ []) more) (All-head P s more all) kept

-- ---- what one of all has, one of those that are kept has

module _ (f : Spot → Bool) where
  -- one that was seen is as good as this one
  seen_has : (s : Spot) (seen : List Spot) → list_any (same_spot s) seen ≡ true → f s ≡ true → list_any f seen ≡ true
  seen_has s [] met is = absurd cc
  seen_has s (t ∷ seen) met is = go (same_spot s t) refl met (λ later. seen_has s seen later is)
    where
      go : (b : Bool) → same_spot s t ≡ b → (b || list_any (same_spot s) seen) ≡ true → (list_any (same_spot s) seen ≡ true → list_any f seen ≡ true)
          → (f t || list_any f seen) ≡ true
      go true same _ more = or_left (f t) (list_any f seen) (ap f (sym (same_one s t same)) ∙ is)
      go false _ later more = or_right (f t) (list_any f seen) (more later)

  one_skipped : (s : Spot) (seen : List Spot) (rest : Bool) → list_any (same_spot s) seen ≡ true → (list_any f seen || (f s || rest)) ≡ (list_any f seen || rest)
  one_skipped s seen rest met = go (f s) refl
    where
      go : (b : Bool) → f s ≡ b → (list_any f seen || (b || rest)) ≡ (list_any f seen || rest)
      go true is = let has = seen_has s seen met is in ap (λ x. x || true) has ∙ sym (ap (λ x. x || rest) has)
      go false is = refl

  one_more : (s : Spot) (seen : List Spot) (rest : Bool) → (list_any f (seen ++ s ∷ []) || rest) ≡ (list_any f seen || (f s || rest))
  one_more s seen rest = ap (λ x. x || rest) (list_any-append f seen (s ∷ []) ∙ ap (λ x. list_any f seen || x) (or_with_none (f s))) ∙ or_assoc (list_any f seen) (f s) rest

  any_once_seen : (seen more : List Spot) → (list_any f seen || list_any f (each_once seen more)) ≡ (list_any f seen || list_any f more)
  any_once_seen seen [] = refl
  any_once_seen seen (s ∷ more) = go (list_any (same_spot s) seen) refl (any_once_seen seen more) (any_once_seen (seen ++ s ∷ []) more)
    where
      go : (b : Bool) → list_any (same_spot s) seen ≡ b → (list_any f seen || list_any f (each_once seen more)) ≡ (list_any f seen || list_any f more)
          → (list_any f (seen ++ s ∷ []) || list_any f (each_once (seen ++ s ∷ []) more)) ≡ (list_any f (seen ++ s ∷ []) || list_any f more)
          → (list_any f seen || list_any f (if b then each_once seen more else s ∷ each_once (seen ++ s ∷ []) more)) ≡ (list_any f seen || (f s || list_any f more))
      go true met skipped kept = skipped ∙ sym (one_skipped s seen (list_any f more) met)
      go false new skipped kept = sym (one_more s seen (list_any f (each_once (seen ++ s ∷ []) more))) ∙ kept ∙ one_more s seen (list_any f more)

  any_once : (spots : List Spot) → list_any f (each_once [] spots) ≡ list_any f spots
  any_once spots = any_once_seen [] spots

pub once_gone : (spots : List Spot) (trees : List Plain) → trees_without (each_once [] spots) trees ≡ trees_without spots trees
once_gone spots trees = ap (λ g. each_without g trees) (λ i file path n. any_once (λ s. same_spot s (element_spot (place file path) n)) spots i)
