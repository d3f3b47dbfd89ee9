-- The first of some places and those after it.
use Rattle.std.proofs.Common.{◌≡◌, ◌-◌, ◌≤◌, List, [], ◌∷◌, length, take, drop, get_or, Ok, Err, ap, sym, ◌∙◌, arith}
use Rattle.std.specs.Prelude.{if◌then◌else◌}
use Rattle.std.specs.List.{list_all}
use Rattle.std.proofs.lemmas.List.{take_all}
use Rattle.meson_calls.specs.declared.call.CallRef.{CallRef}
use Rattle.meson_calls.specs.declared.refusal.Refusal.TheVariants.{Ambiguous}
use Rattle.meson_places.specs.Names.{first_around, leads_into}

pub by_others : (places : List CallRef) (first : CallRef) → 1 ≤ length places → first ≡ get_or places 0 first →
    first_around places ≡ (if list_all (λ c. leads_into c.path.steps first.path.steps) (take (length places - 1) (drop 1 places)) then Ok first else Err Ambiguous)
by_others [] first some is = absurd (omega arith)
by_others (p ∷ places) first some is =
    let all : length (p ∷ places) - 1 ≡ length places = omega arith in
    let rest = ap (λ n. take n places) all ∙ take_all (length places) places (omega arith) in
    sym (ap (λ q. if list_all (λ c. leads_into c.path.steps q.path.steps) (take (length (p ∷ places) - 1) places) then Ok q else Err Ambiguous) is
    ∙ ap (λ xs. if list_all (λ c. leads_into c.path.steps p.path.steps) xs then Ok p else Err Ambiguous) rest)
