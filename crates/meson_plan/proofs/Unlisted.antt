-- A listing is refused as what is told of its call.
use Rattle.std.proofs.Common.{◌≡◌, Some, sym, ap, ◌∙◌, subst}
use Rattle.std.specs.Prelude.{Result, Ok, Err, option_map, option_and_then}
use Rattle.serde_json.specs.Data.{Data}
use Rattle.meson_lex.specs.declared.kinds.Span.{Span}
use Rattle.meson_splice.specs.Patch.{then_ok}
use Rattle.meson_calls.specs.declared.call.CallRef.{CallRef}
use Rattle.meson_calls.specs.declared.call.Reading.{Reading}
use Rattle.meson_calls.specs.declared.call.Role.{Role}
use Rattle.meson_calls.specs.declared.call.Role.TheVariants as role
use Rattle.meson_variables.specs.declared.source.Sources.{Sources}
use Rattle.meson_calls.specs.declared.refusal.Refusal.{Refusal}
use Rattle.meson_calls.specs.Calls.{Call}
use Rattle.meson_calls.specs.Finding.{the_call}
use Rattle.meson_calls.specs.Loading.{Loaded, project}
use Rattle.meson_calls.specs.Project.{Project, Placed}
use Rattle.meson_variables.specs.TargetSources.{sources}
use Rattle.meson_sources.specs.Extras.{extra_files, extra_of_call}
use Rattle.meson_calls.proofs.CallsFound.{role_found}
use Rattle.meson_details.specs.declared.details.Head.{Head}
use Rattle.meson_details.specs.Details.{head, keywords}
use Rattle.meson_plan.specs.Details.{NoTarget, no_extra, no_sources, not_found, place_found, target_place, untold}
use Rattle.meson_listing.specs.Entries.{call_data}
use Rattle.meson_plan.specs.Listing.{call_listing, kwargs_listing, or_not_found, target_at, target_by, target_listing}
use Rattle.meson_plan.proofs.Agreeing.{extras_are, head_is, its_head}
use Rattle.meson_plan.proofs.PlacesFound.{at_place}
use Rattle.meson_calls.specs.declared.call.CallName.{CallName}

-- ---- the listing of a call with this head, these sources and these extra files

module _ (l : Loaded) (reading : Reading) (place : CallRef) (h : Head) (s x : Result Sources Refusal) where
  abbrev p : Project Span
  p = project l

  abbrev of_these : Result Data Refusal
  of_these = then_ok s (λ is. then_ok x (λ xs. Ok (target_by l reading place h is xs)))

  at_these : head p place ≡ Some h → sources p place ≡ Some s → extra_files p place ≡ Some x → target_at l reading place ≡ Some of_these
  at_these heads has further =
      ap (option_and_then (λ k. option_and_then (λ r. option_map (λ q. then_ok r (λ is. then_ok q (λ ys. Ok (target_by l reading place k is ys)))) (extra_files p place)) (sources p place))) heads
      ∙ ap (option_and_then (λ r. option_map (λ q. then_ok r (λ is. then_ok q (λ ys. Ok (target_by l reading place h is ys)))) (extra_files p place))) has
      ∙ ap (option_map (λ q. then_ok s (λ is. then_ok q (λ ys. Ok (target_by l reading place h is ys))))) further

  listed : (id : CallName) → target_place p id ≡ Ok place → head p place ≡ Some h → sources p place ≡ Some s → extra_files p place ≡ Some x → target_listing l reading id ≡ of_these
  listed id is heads has further =
      let a = at_place (the_call p role.Target id) place is in
      ap (λ found. then_ok found (λ (c : Placed (Call Span)). or_not_found (target_at l reading c.place))) a.is_one
      ∙ ap (λ q. or_not_found (target_at l reading q)) a.is_place
      ∙ ap or_not_found (at_these heads has further)

-- ---- refusals

unfound : (found : Result (Placed (Call Span)) Refusal) (e : Refusal) → place_found found ≡ Err e → found ≡ Err e
unfound (Ok c) e is = absurd cc
unfound (Err f) e is = let same : f ≡ e = cc in ap Err same

pub target_unlisted : (l : Loaded) (reading : Reading) (id : CallName) (e : Refusal) → NoTarget (project l) id e → target_listing l reading id ≡ Err e
target_unlisted l reading id e (not_found f is) = ap (λ found. then_ok found (λ (c : Placed (Call Span)). or_not_found (target_at l reading c.place))) (unfound (the_call (project l) role.Target id) f is)
target_unlisted l reading id e (untold place f is (no_sources g twice)) =
    let a = at_place (the_call (project l) role.Target id) place is in
    let at = (role_found (project l) role.Target id a.one a.is_one).at in
    let there = subst (λ q. sources (project l) q ≡ Some (Err g)) (sym a.is_place) twice in
    listed l reading a.one.place (its_head l a.one at).told (Err g) (extra_of_call (project l) a.one) id (ap place_found a.is_one) (head_is l a.one at) there (extras_are l a.one at)
target_unlisted l reading id e (untold place f is (no_extra found g once twice)) =
    let a = at_place (the_call (project l) role.Target id) place is in
    let at = (role_found (project l) role.Target id a.one a.is_one).at in
    let first = subst (λ q. sources (project l) q ≡ Some (Ok found)) (sym a.is_place) once in
    let there = subst (λ q. extra_files (project l) q ≡ Some (Err g)) (sym a.is_place) twice in
    listed l reading a.one.place (its_head l a.one at).told (Ok found) (Err g) id (ap place_found a.is_one) (head_is l a.one at) first there

-- of a call that has this head
pub call_unlisted : (l : Loaded) (r : Role) (id : CallName) (place : CallRef) (h : Head) (e : Refusal)
    → place_found (the_call (project l) r id) ≡ Ok place → head (project l) place ≡ Some h → keywords l r place ≡ Some (Err e) → kwargs_listing l r id ≡ Err e
call_unlisted l r id place h e found heads twice =
    let a = at_place (the_call (project l) r id) place found in
    ap (λ one. then_ok one (λ (c : Placed (Call Span)). or_not_found (call_listing l r c.place))) a.is_one
    ∙ ap (λ q. or_not_found (call_listing l r q)) a.is_place
    ∙ ap (λ o. or_not_found (option_and_then (λ k. option_map (λ ks. then_ok ks (λ pairs. Ok (call_data l.files place.file k pairs))) (keywords l r place)) o)) heads
    ∙ ap (λ o. or_not_found (option_map (λ ks. then_ok ks (λ pairs. Ok (call_data l.files place.file h pairs))) o)) twice
