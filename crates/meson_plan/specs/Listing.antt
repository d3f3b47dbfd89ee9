-- What an info command lists of the call that an id names, or of the value that a name names, by the files and trees of the project. Meson manual, Rewriter.
use Rattle.std.specs.Prelude.{Bool, true, false, List, [], ◌∷◌, Option, Some, None, option_map, option_and_then, Result, Ok, Err}
use Rattle.serde_json.specs.Data.{Data}
use Rattle.meson_splice.specs.Patch.{then_ok}
use Rattle.meson_calls.specs.declared.call.CallRef.{CallRef}
use Rattle.meson_calls.specs.declared.call.Reading.{Reading}
use Rattle.meson_calls.specs.declared.call.Reading.TheVariants.{Written, Followed}
use Rattle.meson_calls.specs.declared.call.Role.{Role}
use Rattle.meson_calls.specs.declared.call.Role.TheVariants as role
use Rattle.meson_calls.specs.declared.refusal.Refusal.{Refusal}
use Rattle.meson_calls.specs.declared.refusal.Refusal.TheVariants.{NotFound}
use Rattle.meson_calls.specs.Finding.{the_call}
use Rattle.meson_calls.specs.Loading.{Loaded, project}
use Rattle.meson_steps.specs.declared.argument.ValueName.{ValueName}
use Rattle.meson_steps.specs.declared.command.Command.{Command}
use Rattle.meson_steps.specs.declared.command.Command.TheVariants as command
use Rattle.meson_variables.specs.declared.source.Sources.{Sources}
use Rattle.meson_variables.specs.TargetSources.{sources}
use Rattle.meson_sources.specs.Extras.{extra_files}
use Rattle.meson_details.specs.declared.details.Head.{Head}
use Rattle.meson_details.specs.Details.{head, keywords}
use Rattle.meson_listing.specs.Entries.{target_data, call_data}
use Rattle.meson_listing.specs.Followed.{followed_data}
use Rattle.meson_listing.specs.Values.{value_data}
use Rattle.meson_plan.specs.Details.{told_sources}
use Rattle.meson_plan.specs.Values.{the_value}
use Rattle.meson_calls.specs.declared.call.CallName.{CallName}

-- of the call at a place with this head, these sources and these extra files; where variables are followed, other sources stand in place of these
abbrev pub target_by : Loaded → Reading → CallRef → Head → Sources → Sources → Data
target_by l Written c h is xs = target_data l.files c.file h is xs
target_by l Followed c h is xs = followed_data l.files c.file h (told_sources l c) xs

-- of the call at a place, if there is one
abbrev pub target_at : Loaded → Reading → CallRef → Option (Result Data Refusal)
target_at l reading c =
    option_and_then (λ h. option_and_then (λ s. option_map (λ x. then_ok s (λ is. then_ok x (λ xs. Ok (target_by l reading c h is xs))))
    (extra_files (project l) c)) (sources (project l) c)) (head (project l) c)

abbrev pub call_listing : Loaded → Role → CallRef → Option (Result Data Refusal)
call_listing l r c = option_and_then (λ h. option_map (λ ks. then_ok ks (λ pairs. Ok (call_data l.files c.file h pairs))) (keywords l r c)) (head (project l) c)

-- there always is one where an id leads
abbrev pub or_not_found : Option (Result Data Refusal) → Result Data Refusal
or_not_found None = Err NotFound
or_not_found (Some listing) = listing

-- of the target that is named
abbrev pub target_listing : Loaded → Reading → CallName → Result Data Refusal
target_listing l reading name = then_ok (the_call (project l) role.Target name) (λ c. or_not_found (target_at l reading c.place))

-- of the call of this role that is named
abbrev pub kwargs_listing : Loaded → Role → CallName → Result Data Refusal
kwargs_listing l r name = then_ok (the_call (project l) r name) (λ c. or_not_found (call_listing l r c.place))

-- of the value that a name names
abbrev pub value_listing : Loaded → ValueName → Result Data Refusal
value_listing l n = then_ok (the_value l n) (λ v. Ok (value_data l.files v.file v.span.from v.details))

-- ---- what a command reports of the files and trees as they are: an info command its listing, the others nothing

abbrev pub told : Loaded → Command → Result (List Data) Refusal
told l (command.TargetInfo target reading) = then_ok (target_listing l reading target) (λ d. Ok (d ∷ []))
told l (command.KwargsInfo role name) = then_ok (kwargs_listing l role name) (λ d. Ok (d ∷ []))
told l (command.ArgumentInfo name) = then_ok (value_listing l name) (λ d. Ok (d ∷ []))
told l _ = Ok []

-- whether a command only reports, and changes nothing
abbrev pub asks : Command → Bool
asks (command.TargetInfo target reading) = true
asks (command.KwargsInfo role name) = true
asks (command.ArgumentInfo name) = true
asks _ = false
