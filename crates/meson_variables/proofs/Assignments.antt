-- The assignments to a variable, met one after another.
use Rattle.meson_variables.proofs.Words.{◌≡◌, ℕ, List, [], ◌∷◌, refl, sym, ap, ◌∙◌, Bool, true, false, cond, ◌||◌, if◌then◌else◌, bytes_eq, Option, Some, None}
use Rattle.meson_variables.proofs.Words.{option_map, cons_option, option_flatten, Span, Expression, chosen, an_assignment, Placed, placed, place_at, value_view}
use Rattle.meson_variables.proofs.Words.{taken, looked_up, note_assigned, Assigned, only_value, assignment, merged, with_assigned}
use Rattle.meson_calls.specs.declared.note.Note as code
use Rattle.meson_variables.specs.declared.values.Value.{Value}

abbrev Found : Type 0
Found = Option (Option (Placed (Expression Span)))

-- ---- what is left of the assignments is met behind what was met before

abbrev pub resumed : Found → List (Placed (Assigned Span)) → Found
resumed before [] = before
resumed before (a ∷ more) = resumed (with_assigned before (Some a)) more

pub next_met : (before : Found) (a : Option (Placed (Assigned Span))) (more : List (Placed (Assigned Span))) →
    resumed before (cons_option a more) ≡ resumed (with_assigned before a) more
next_met before None more = refl
next_met before (Some a) more = refl

none_more : (more : List (Placed (Assigned Span))) → resumed (Some None) more ≡ Some None
none_more [] = refl
none_more (a ∷ more) = none_more more

pub all_met : (all : List (Placed (Assigned Span))) → resumed None all ≡ taken all
all_met [] = refl
all_met (a ∷ []) = refl
all_met (a ∷ b ∷ more) = none_more more

pub only_taken : (all : List (Placed (Assigned Span))) → option_flatten (taken all) ≡ only_value all
only_taken [] = refl
only_taken (a ∷ more) = refl

-- ---- an assignment is one to the variable of its name

pub met_by_name : (x y : List ℕ) (n : code.Note) (sets : Bool) (e : Expression Span) (before : Found) →
    (if bytes_eq y x then Some (merged before (only_value (assignment n sets e ∷ []))) else before)
    ≡ with_assigned before (chosen (note_assigned x) (placed (place_at n.place) (an_assignment y sets e)))
met_by_name x y n sets e before = go (bytes_eq y x)
  where
    go : (b : Bool) → (if b then Some (merged before (only_value (assignment n sets e ∷ []))) else before)
        ≡ with_assigned before (option_map (placed (place_at n.place)) (if b then Some (record { value = e; sets = sets }) else None))
    go true = refl
    go false = refl

-- ---- what stands in a map after an insertion

module _ (value : Option Value) (b : Bool) (old new : Option (Option Value)) where
  abbrev After : Type 0
  After = looked_up new ≡ (if b then Some (merged (looked_up old) (option_map value_view value)) else looked_up old)

  pub put_first : (b ≡ true → old ≡ None) → new ≡ cond b (Some value) old → After
  put_first none is = go b none is
    where
      go : (t : Bool) → (t ≡ true → old ≡ None) → new ≡ cond t (Some value) old →
          looked_up new ≡ (if t then Some (merged (looked_up old) (option_map value_view value)) else looked_up old)
      go true free so = ap looked_up so ∙ ap (λ o. Some (merged (looked_up o) (option_map value_view value))) (sym (free refl))
      go false free so = ap looked_up so

  pub put_again : (before : Option Value) (mid : Option (Option Value)) →
      (b ≡ true → old ≡ Some before) → mid ≡ cond b (Some value) old → new ≡ cond b (Some None) mid → After
  put_again before mid some is twice = go b some is twice
    where
      go : (t : Bool) → (t ≡ true → old ≡ Some before) → mid ≡ cond t (Some value) old → new ≡ cond t (Some None) mid →
          looked_up new ≡ (if t then Some (merged (looked_up old) (option_map value_view value)) else looked_up old)
      go true had so last = ap looked_up last ∙ ap (λ o. Some (merged (looked_up o) (option_map value_view value))) (sym (had refl))
      go false had so last = ap looked_up (last ∙ so)

-- ---- and after a removal

pub removed : (b : Bool) (old new : Option (Option Value)) → new ≡ cond b None old →
    option_flatten (looked_up new) ≡ (if b then None else option_flatten (looked_up old))
removed true old new is = ap (λ o. option_flatten (looked_up o)) is
removed false old new is = ap (λ o. option_flatten (looked_up o)) is

-- one more that is forgotten
pub forgotten : {V : Type 0} (a b : Bool) (before between after : Option V) →
    between ≡ (if a then None else before) → after ≡ (if b then None else between) → after ≡ (if a || b then None else before)
forgotten true true before between after first second = second
forgotten true false before between after first second = second ∙ first
forgotten false true before between after first second = second
forgotten false false before between after first second = second ∙ first
