-- What is named are calls.
use Rattle.std.proofs.Common.{◌≡◌, ℕ, List, [], ◌∷◌, Option, ap, ◌∙◌, subst}
use Rattle.std.specs.Prelude.{All, is_some, option_map, option_and_then, Result, Ok, Err}
use Rattle.meson_lex.specs.declared.kinds.Span.{Span}
use Rattle.meson_syntax.proofs.paths.Every.{Every}
use Rattle.meson_splice.specs.Patch.{then_ok}
use Rattle.meson_calls.specs.declared.call.CallName.{CallName}
use Rattle.meson_calls.specs.declared.call.CallRef.{CallRef}
use Rattle.meson_calls.specs.declared.call.Role.{Role}
use Rattle.meson_calls.specs.declared.refusal.Refusal.{Refusal}
use Rattle.meson_calls.specs.Calls.{Call, call_of}
use Rattle.meson_calls.specs.Loading.{Loaded, project}
use Rattle.meson_calls.specs.Naming.{found_among}
use Rattle.meson_calls.specs.Parts.{parts}
use Rattle.meson_calls.specs.Project.{Project, Placed, placed}
use Rattle.meson_calls.specs.Roles.{places}
use Rattle.meson_calls.specs.Searching.{project_names, searched_file, within}
use Rattle.meson_plan.specs.Named.{places_named}
use Rattle.meson_inventory.specs.inside.Holdings.{IsCall}
use Rattle.meson_inventory.proofs.CallsHeld.{Called, all_places}
use Rattle.meson_inventory.proofs.FoundListed.{Standing, found_stand}

stands_called : (p : Project Span) (c : Placed (Call Span)) → Standing p c → Called p c
stands_called p c s =
    ap (λ o. is_some (option_map (placed c.place) (option_and_then call_of o))) s.is_at ∙ ap (λ k. is_some (option_map (placed c.place) k)) s.is_call

every_called : (p : Project Span) (cs : List (Placed (Call Span))) → Every (Standing p) cs → Every (Called p) cs
every_called p [] every = tt
every_called p (c ∷ cs) every = (stands_called p c every.0, every_called p cs every.1)

within_called : (l : Loaded) (w : Option ℕ) (r : Role) (id : List ℕ) → All (IsCall l) (places (found_among (within w (parts (project l))) r id))
within_called l w r id =
    let cs = found_among (within w (parts (project l))) r id in
    all_places (project l) cs (every_called (project l) cs (found_stand (project l) w r id))

module _ (l : Loaded) (r : Role) (name : CallName) where
  abbrev named_in : Option ℕ → Result (List CallRef) Refusal
  named_in w = Ok (places (found_among (within w (parts (project l))) r name.id))

  pub named_called : (cs : List CallRef) → places_named (project l) r name ≡ Ok cs → All (IsCall l) cs
  named_called cs is = go (searched_file (project_names (project l)) name.folder) is
    where
      go : (o : Result (Option ℕ) Refusal) → then_ok o named_in ≡ Ok cs → All (IsCall l) cs
      go (Err e) same = absurd (let never : ⊥ = cc in never)
      go (Ok w) same =
          let are : places (found_among (within w (parts (project l))) r name.id) ≡ cs = cc in
          subst (All (IsCall l)) are (within_called l w r name.id)
