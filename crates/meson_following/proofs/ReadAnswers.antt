-- What a walk through a project answers.
use Rattle.std.proofs.Common.{◌≡◌, ℕ, List, [], ◌∷◌, ◌++◌, refl, sym, ap, ap₂, ◌∙◌, append_assoc, append-nil}
use Rattle.std.specs.Prelude.{Bool, true, false, filter, flat_map, map, if◌then◌else◌}
use Rattle.std.specs.Borrow.{Bor}
use Rattle.std.specs.List.{fold}
use Rattle.meson_lex.specs.declared.kinds.Span.{Span}
use Rattle.meson_calls.specs.declared.call.BorrowedPlace.{BorrowedPlace}
use Rattle.meson_calls.specs.declared.call.CallRef.{CallRef}
use Rattle.meson_calls.specs.Project.{Placed, place_at, placed}
use Rattle.meson_calls.specs.Roles.{places}
use Rattle.meson_following.specs.declared.walk.Aim.TheVariants as aim
use Rattle.meson_following.specs.Flows.{Arrival, known_among}
use Rattle.meson_following.specs.Makers.{Known}
use Rattle.meson_following.specs.Reads.{read_places, reads_at_arrival}
use Rattle.meson_following.specs.Reads.{has_one_of, sees}
use Rattle.meson_following.specs.Walks.{Found, met_by, reads_seen}

-- ---- a place

pub known_met : (x : List ℕ) (c : BorrowedPlace) (f : Found) (arrivals : List (Arrival Span))
    → (fold (met_by x (aim.Place c)) f arrivals).known ≡ known_among (place_at c) f.known arrivals
known_met x c f [] = refl
known_met x c f (a ∷ more) = known_met x c (met_by x (aim.Place c) f a) more

-- ---- reads

module _ (x : List ℕ) (ms : List CallRef) where
  all_seen : (k : Known Span) → has_one_of ms k ≡ true → (cs : List CallRef) → places (filter (sees ms) (map (λ c. placed c k) cs)) ≡ cs
  all_seen k is [] = refl
  all_seen k is (c ∷ cs) =
      ap (λ b. places (if b then placed c k ∷ filter (sees ms) (map (λ d. placed d k) cs) else filter (sees ms) (map (λ d. placed d k) cs))) is
      ∙ ap (λ ds. c ∷ ds) (all_seen k is cs)

  none_seen : (k : Known Span) → has_one_of ms k ≡ false → (cs : List CallRef) → places (filter (sees ms) (map (λ c. placed c k) cs)) ≡ []
  none_seen k is [] = refl
  none_seen k is (c ∷ cs) =
      ap (λ b. places (if b then placed c k ∷ filter (sees ms) (map (λ d. placed d k) cs) else filter (sees ms) (map (λ d. placed d k) cs))) is
      ∙ none_seen k is cs

  one_arrival : (a : Arrival Span) → places (filter (sees ms) (reads_at_arrival x a)) ≡ reads_seen x ms a
  one_arrival a = go (has_one_of ms a.known) refl
    where
      go : (b : Bool) → has_one_of ms a.known ≡ b → places (filter (sees ms) (reads_at_arrival x a)) ≡ reads_seen x ms a
      go true is = all_seen a.known is (read_places x a.at_expression) ∙ sym (ap (λ b. if b then read_places x a.at_expression else []) is)
      go false is = none_seen a.known is (read_places x a.at_expression) ∙ sym (ap (λ b. if b then read_places x a.at_expression else []) is)

  seen_append : (rs ss : List (Placed (Known Span))) → places (filter (sees ms) (rs ++ ss)) ≡ places (filter (sees ms) rs) ++ places (filter (sees ms) ss)
  seen_append [] ss = refl
  seen_append (r ∷ rs) ss = go (sees ms r) (seen_append rs ss)
    where
      go : (b : Bool) → places (filter (sees ms) (rs ++ ss)) ≡ places (filter (sees ms) rs) ++ places (filter (sees ms) ss)
          → places (if b then r ∷ filter (sees ms) (rs ++ ss) else filter (sees ms) (rs ++ ss))
          ≡ places (if b then r ∷ filter (sees ms) rs else filter (sees ms) rs) ++ places (filter (sees ms) ss)
      go true more = ap (λ cs. r.place ∷ cs) more
      go false more = more

  arrivals_seen : (arrivals : List (Arrival Span)) → places (filter (sees ms) (flat_map (reads_at_arrival x) arrivals)) ≡ flat_map (reads_seen x ms) arrivals
  arrivals_seen [] = refl
  arrivals_seen (a ∷ more) =
      seen_append (reads_at_arrival x a) (flat_map (reads_at_arrival x) more) ∙ ap₂ (λ cs ds. cs ++ ds) (one_arrival a) (arrivals_seen more)

module _ (x : List ℕ) (ms : Bor (List CallRef)) where
  reads_met : (f : Found) (arrivals : List (Arrival Span))
      → (fold (met_by x (aim.Makers ms)) f arrivals).reads ≡ f.reads ++ flat_map (reads_seen x ms.now) arrivals
  reads_met f [] = sym (append-nil f.reads)
  reads_met f (a ∷ more) =
      reads_met (met_by x (aim.Makers ms) f a) more ∙ append_assoc f.reads (reads_seen x ms.now a) (flat_map (reads_seen x ms.now) more)

  pub all_read : (f : Found) (arrivals : List (Arrival Span)) → f.reads ≡ []
      → (fold (met_by x (aim.Makers ms)) f arrivals).reads ≡ places (filter (sees ms.now) (flat_map (reads_at_arrival x) arrivals))
  all_read f arrivals none =
      reads_met f arrivals ∙ ap (λ cs. cs ++ flat_map (reads_seen x ms.now) arrivals) none ∙ sym (arrivals_seen x ms.now arrivals)
