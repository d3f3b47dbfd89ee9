-- The steps that rename sources, by what the code finds.
use Rattle.meson_syntax.specs.declared.tree.List as rust
use Rattle.meson_variables.proofs.Anys.{any-map}
use Rattle.meson_calls.specs.declared.refusal.Refusal.TheVariants.{ThereAlready}
use Rattle.meson_sources.specs.SourceEdits.{renamed_at, renaming, sources_renamed}
use Rattle.meson_sources.proofs.Words.{list_any, Err, IfErr, IfOk, if◌then◌else◌, Ok, Result, [], add-one, ap, drop, drop-cons, get_or, length, List, map, Some, ◌+◌, ◌≢◌, ℕ, ◌<◌, ◌∙◌, ◌∷◌, ◌≡◌, ◌≤◌, sym, then_ok, Span, Call}
use Rattle.meson_sources.proofs.Words.{keyword, value_with_name, placed_call, kept_args, once, sources_key, Placed, Project, CallRef, Refusal, DuplicateKeyword}
use Rattle.meson_sources.proofs.Words.{once_few, once_twice, keyword_is, all_gathered, Mark, max_followed, Tally, items, source_item, source_marks, checked_names}
use Rattle.meson_sources.proofs.Words.{Step, ListStep, AreMeant, bare, OutOfMemory, is_known, Spot, spots_of_names, has_value}
use Rattle.meson_sources.proofs.commands.Meant.{fields, told_spots}

-- ---- results that are handed on

pub ok_meant : {V : Type 0} (list : V → List ListStep) (steps : List Step) (meant : Result (List Step) Refusal) → meant ≡ Ok steps → (r : Result V Refusal) → IfOk r (λ v. map Some (list v) ≡ map bare steps)
    → IfOk r (λ v. AreMeant meant (list v))
ok_meant list steps meant is (Ok v) are = record { steps = steps; is = is; bare = sym are }
ok_meant list steps meant is (Err e) are = tt

pub only_memory : {V : Type 0} (meant : Result (List Step) Refusal) (r : Result V Refusal) → IfErr r (λ e. e ≡ OutOfMemory) → IfErr r (λ e. e ≢ OutOfMemory → meant ≡ Err e)
only_memory meant (Ok v) is = tt
only_memory meant (Err e) is = λ other. absurd (other is)

pub of_any : {V E P : Type 0} (r : Result V E) → P → IfOk r (λ v. P)
of_any (Ok v) holds = holds
of_any (Err e) holds = tt

-- ---- spots, one after another

pub next_spot : {X : Type 0} (view : X → Spot) (xs : List X) (name : List ℕ) (i : ℕ) (d : X) → i < length xs
    → map bare (map (renaming name) (map view (drop i xs))) ≡ bare (renaming name (view (get_or xs i d))) ∷ map bare (map (renaming name) (map view (drop (i + 1) xs)))
next_spot view xs name i d within =
    ap (λ l. map bare (map (renaming name) (map view l))) (drop-cons xs i d within ∙ ap (λ k. get_or xs i d ∷ drop k xs) (sym (add-one i)))

-- ---- what the command means

module _ (p : Project Span) (c : CallRef) (source : List ℕ) (l : rust.List) (function old new : List ℕ) where
  abbrev it : Placed (Call Span)
  it = placed_call c function source l

  abbrev marks : List (Mark Span)
  marks = source_marks p it

  abbrev args : ℕ
  args = length (kept_args source (value_with_name sources_key) 0 (rust.out-List l).items)

  abbrev by : List (Mark Span) → Result (List Step) Refusal
  by ms = renamed_at ms old new

  abbrev after_names : Result (Unit {0}) Refusal → Result (List Step) Refusal
  after_names r = then_ok r (λ _. then_ok (once sources_key (keyword sources_key it.it) marks) by)

  pub names_bad : (e : Refusal) → checked_names (old ∷ new ∷ []) ≡ Err e → sources_renamed p it old new ≡ Err e
  names_bad e bad = ap after_names bad

  module _ (checked : checked_names (old ∷ new ∷ []) ≡ Ok tt) where
    pub renamed_twice : 1 < args → sources_renamed p it old new ≡ Err (DuplicateKeyword sources_key)
    renamed_twice many =
        ap after_names checked ∙ ap (λ xs. then_ok (once sources_key xs marks) by) (keyword_is source l function sources_key)
        ∙ ap (λ r. then_ok r by) (once_twice sources_key (kept_args source (value_with_name sources_key) 0 (rust.out-List l).items) marks many)

    module _ (few : args ≤ 1) (t : Tally) (is : t ≡ (all_gathered p max_followed c source (rust.out-List l).items).tally) where
      -- what is found by a tally
      abbrev pub among : Result (List Step) Refusal
      among = then_ok (spots_of_names t.items t.numbers t.unknown (old ∷ [])) (λ spots. if list_any (has_value new) t.items then Err ThereAlready else Ok (map (renaming new) spots))

      known : list_any (has_value new) t.items ≡ is_known marks new
      known = let f = fields p c source l function [] t is in ap (list_any (has_value new)) f.are_items ∙ any-map (has_value new) source_item (items marks)

      pub renamed_after : sources_renamed p it old new ≡ among
      renamed_after =
          let f = fields p c source l function [] t is in
          ap after_names checked ∙ ap (λ xs. then_ok (once sources_key xs marks) by) (keyword_is source l function sources_key)
          ∙ ap (λ r. then_ok r by) (once_few sources_key (kept_args source (value_with_name sources_key) 0 (rust.out-List l).items) marks few)
          ∙ ap (λ r. then_ok r (λ spots. if is_known marks new then Err ThereAlready else Ok (map (renaming new) spots))) (sym (told_spots t marks f (old ∷ [])))
          ∙ ap (λ b. then_ok (spots_of_names t.items t.numbers t.unknown (old ∷ [])) (λ spots. if b then Err ThereAlready else Ok (map (renaming new) spots))) (sym known)
