-- The calls of a project stand at their places, and what is listed of them, one after another.
use Rattle.std.proofs.Common.{◌≡◌, ℕ, ◌+◌, zero, suc, ◌<◌, List, [], ◌∷◌, ◌++◌, length, take, get_or, Option, Some, refl, sym, ap, ◌∙◌, arith}
use Rattle.std.specs.Prelude.{All, IsTrue, is_some, option_map, option_and_then}
use Rattle.std.specs.List.{cons_option}
use Rattle.std.proofs.lemmas.List.{take_more}
use Rattle.std.proofs.lemmas.List.Elements.{filter_map-append}
use Rattle.meson_lex.specs.declared.kinds.Span.{Span}
use Rattle.meson_syntax.proofs.paths.Every.{Every}
use Rattle.meson_calls.specs.declared.call.CallRef.{CallRef}
use Rattle.meson_calls.specs.declared.call.Role.TheVariants as role
use Rattle.meson_calls.specs.Calls.{Call, call_of, part_call, all_chosen, calls}
use Rattle.meson_calls.specs.Loading.{Loaded, project}
use Rattle.meson_calls.specs.Parts.{Part, parts}
use Rattle.meson_calls.specs.Parts as part
use Rattle.meson_calls.specs.Project.{Project, Placed, placed}
use Rattle.meson_calls.specs.Roles.{places, targets, with_role}
use Rattle.meson_calls.proofs.CallsReached.{InProject, every_chosen, every_part}
use Rattle.meson_calls.proofs.ExpressionsAt.{expression_stands}
use Rattle.meson_details.specs.Details.{is_call}
use Rattle.meson_inventory.specs.Holdings.{calls_of, held_call, held_calls, with_function}
use Rattle.meson_inventory.specs.inside.Holdings.{IsCall}
use Rattle.meson_inventory.specs.declared.holdings.HeldCall.{HeldCall}

-- ---- places of calls

abbrev pub Called : Project Span → Placed (Call Span) → Type 0
Called p c = IsTrue (is_call p c.place)

called_part : (p : Project Span) (q : Placed (Part Span)) (c : Call Span) → InProject 0 p q → part_call q.it ≡ Some c → Called p (placed q.place c)
called_part p q c i is = go q.it refl is
  where
    go : (x : Part Span) → q.it ≡ x → part_call x ≡ Some c → IsTrue (is_call p q.place)
    go (part.an_expression e) same h =
        ap (λ o. is_some (option_map (placed q.place) (option_and_then call_of o))) (expression_stands p q e i same) ∙ ap (λ k. is_some (option_map (placed q.place) k)) h
    go (part.a_statement s) same h = absurd cc

every_call : (p : Project Span) → Every (Called p) (calls p)
every_call p = every_chosen (InProject 0 p) (Called p) part_call (called_part p) (parts p) (every_part 0 p)

-- those of them that are chosen
chosen_called : (p : Project Span) (choose : Call Span → Option (Call Span)) → Every (Called p) (all_chosen choose (calls p))
chosen_called p choose = every_chosen (Called p) (Called p) choose (λ q c called is. called) (calls p) (every_call p)

pub all_places : (p : Project Span) (cs : List (Placed (Call Span))) → Every (Called p) cs → All (λ c. IsTrue (is_call p c)) (places cs)
all_places p [] every = λ k d within. absurd (omega (arith, within))
all_places p (c ∷ cs) every = at (all_places p cs every.1)
  where
    at : All (λ d. IsTrue (is_call p d)) (places cs) → (k : ℕ) (d : CallRef) → k < suc (length (places cs)) → IsTrue (is_call p (get_or (c.place ∷ places cs) k d))
    at rest zero d within = every.0
    at rest (suc k) d within = let below : k < length (places cs) = omega (arith, within) in rest k d below

pub targets_called : (l : Loaded) → All (IsCall l) (targets (project l))
targets_called l = all_places (project l) (all_chosen (with_role role.Target) (calls (project l))) (chosen_called (project l) (with_role role.Target))

pub calls_called : (l : Loaded) (f : List ℕ) → All (IsCall l) (calls_of (project l) f)
calls_called l f = all_places (project l) (all_chosen (with_function f) (calls (project l))) (chosen_called (project l) (with_function f))

-- ---- one more of them

joins : (o : Option HeldCall) (call : HeldCall) → o ≡ Some call → cons_option o [] ≡ call ∷ []
joins o call is = ap (λ k. cons_option k []) is

pub one_more : (l : Loaded) (cs : List CallRef) (i : ℕ) (d : CallRef) (call : HeldCall) (before : List HeldCall) → i < length cs → held_call l (get_or cs i d) ≡ Some call → before ≡ held_calls l (take i cs)
    → before ++ call ∷ [] ≡ held_calls l (take (i + 1) cs)
one_more l cs i d call before within is so_far =
    ap (λ b. b ++ call ∷ []) so_far
    ∙ ap (λ m. held_calls l (take i cs) ++ m) (sym (joins (held_call l (get_or cs i d)) call is))
    ∙ sym (ap (held_calls l) (take_more cs i d within) ∙ filter_map-append (held_call l) (take i cs) (get_or cs i d ∷ []))
