-- The targets of a project, and what is reported of the sources of one.
use Rattle.std.proofs.Common.{◌≡◌, ℕ, List, [], ◌∷◌, ◌++◌, flat_map, map, refl, ap, ap₂, ◌∙◌}
use Rattle.std.specs.Prelude.{Bool, true, false, if◌then◌else◌, Option, Some, None, option_and_then, option_map}
use Rattle.std.specs.List.{cons_option, filter_map}
use Rattle.meson_lex.specs.declared.kinds.Span.{Span}
use Rattle.meson_syntax.specs.Tree.{evaluate, assign, selection, iteration, breaks, continues}
use Rattle.meson_calls.specs.declared.call.CallRef.{CallRef}
use Rattle.meson_calls.specs.declared.call.Role.TheVariants as role
use Rattle.meson_calls.specs.Calls.{Call, all_chosen, call_of, part_call}
use Rattle.meson_calls.specs.Notes.{Note, a_call, noted}
use Rattle.meson_calls.specs.Parts.{Part, an_expression, a_statement}
use Rattle.meson_calls.specs.Project.{Placed, Project, placed}
use Rattle.meson_calls.specs.Roles.{has_role, role_calls, role_calls_among, with_role}
use Rattle.meson_following.specs.Following.{Item, Mark, known, opaque, empty, follow_call, follow_marks}
use Rattle.meson_sharing.specs.CodeTargets.{sharing_names, target_of, targets_of_note}
use Rattle.meson_sharing.specs.CodeTold.{item_by, items_by, shared_with, sharers_by}
use Rattle.meson_sharing.specs.Sharing.{is_own, names_or_none, sharer, sharers, ways_of_target, variable_of}
use Rattle.meson_sharing.specs.Told.{Told, ToldItem, last_of, shared_by, told, told_item, told_mark}
use Rattle.meson_sharing.proofs.OwnMakers.{closed}

-- ---- targets

module _ (p : Project Span) where
  -- those of the notes of some parts are those of the parts
  one_call : (q : CallRef) (c : Option (Call Span)) (ns : List (Placed (Note Span))) (cs : List (Placed (Call Span)))
      → flat_map (targets_of_note p) ns ≡ map (target_of p) (all_chosen (with_role role.Target) cs)
      → flat_map (targets_of_note p) (cons_option (option_map (placed q) (option_map a_call c)) ns)
      ≡ map (target_of p) (all_chosen (with_role role.Target) (cons_option (option_map (placed q) c) cs))
  one_call q None ns cs more = more
  one_call q (Some c) ns cs more = go (has_role role.Target c)
    where
      go : (b : Bool) → (if b then target_of p (placed q c) ∷ [] else []) ++ flat_map (targets_of_note p) ns
          ≡ map (target_of p) (cons_option (option_map (placed q) (if b then Some c else None)) (all_chosen (with_role role.Target) cs))
      go true = ap (λ ts. target_of p (placed q c) ∷ ts) more
      go false = more

  pub notes_targets : (qs : List (Placed (Part Span))) → flat_map (targets_of_note p) (noted qs) ≡ map (target_of p) (role_calls_among qs role.Target)
  notes_targets [] = refl
  notes_targets (q ∷ qs) = go q.it (notes_targets qs)
    where
      go : (part : Part Span) → flat_map (targets_of_note p) (noted qs) ≡ map (target_of p) (role_calls_among qs role.Target)
          → flat_map (targets_of_note p) (noted (placed q.place part ∷ qs)) ≡ map (target_of p) (role_calls_among (placed q.place part ∷ qs) role.Target)
      go (an_expression e) more = one_call q.place (call_of e) (noted qs) (all_chosen part_call qs) more
      go (a_statement (evaluate e)) more = more
      go (a_statement (assign s x a e)) more = more
      go (a_statement (selection s bs o)) more = more
      go (a_statement (iteration s xs e b)) more = more
      go (a_statement (breaks s)) more = more
      go (a_statement (continues s)) more = more

-- ---- who gets what is in the value of a maker

-- what is said of a list that is read for one target alone, or is not, and which other targets get
abbrev said : Bool → List (List ℕ) → Option (List (List ℕ))
said own names = if own then Some [] else names_or_none names

only_own : (own : Bool) (names : List (List ℕ)) → said own names ≡ Some [] → own ≡ true
only_own true names is = refl
only_own false [] is = absurd (let no : ⊥ = cc in no)
only_own false (x ∷ names) is = absurd (let no : ⊥ = cc in no)

module _ (p : Project Span) (c : Placed (Call Span)) where
  sharers_named : (m : CallRef) (cs : List (Placed (Call Span))) → sharing_names c.place m (map (target_of p) cs) ≡ filter_map (sharer p c m) cs
  sharers_named m [] = refl
  sharers_named m (d ∷ cs) = ap (cons_option (sharer p c m d)) (sharers_named m cs)

  pub own_is_not_shared : (m : CallRef) → is_own p c m ≡ true → sharers p c m ≡ Some []
  own_is_not_shared m own = ap (λ is. said is (filter_map (sharer p c m) (role_calls p role.Target))) own

  pub not_shared_is_own : (m : CallRef) → sharers p c m ≡ Some [] → is_own p c m ≡ true
  not_shared_is_own m = only_own (is_own p c m) (filter_map (sharer p c m) (role_calls p role.Target))

  module _ (followed ways : List CallRef) (are_followed : followed ≡ (follow_call p c).followed) (are_ways : ways ≡ ways_of_target c) where
    sharers_are : (m : CallRef) → sharers_by p c.place followed ways m ≡ sharers p c m
    sharers_are m = ap₂ said (closed p c false m followed ways are_followed are_ways) (sharers_named m (role_calls p role.Target))

    shared_is : (m : Option CallRef) → shared_with p c.place followed ways m ≡ shared_by p c m
    shared_is None = refl
    shared_is (Some m) = sharers_are m

    item_is : (i : Item Span) → item_by p c.place followed ways i ≡ told_item p c i
    item_is i =
        let of : Option (List (List ℕ)) → ToldItem Span = λ s. record { item = i; variable = option_and_then (variable_of p) (last_of i.way.through); shared = s } in
        ap of (shared_is (last_of i.way.through))

    items_are : (ms : List (Mark Span)) → items_by p c.place followed ways ms ≡ filter_map (told_mark p c) ms
    items_are [] = refl
    items_are (known i ∷ ms) = ap₂ (λ x xs. x ∷ xs) (item_is i) (items_are ms)
    items_are (opaque ∷ ms) = items_are ms
    items_are (empty q w ∷ ms) = items_are ms

    pub told_is : (t : Told Span) (ms : List (Mark Span)) → ms ≡ follow_marks p c → t.items ≡ items_by p c.place followed ways ms
        → t.unknown ≡ (told p c).unknown → t ≡ told p c
    told_is t ms are_marks items unknown =
        let of : List (ToldItem Span) → ℕ → Told Span = λ xs n. record { items = xs; unknown = n } in
        ap₂ of (items ∙ items_are ms ∙ ap (filter_map (told_mark p c)) are_marks) unknown
