-- What the listings promise, in terms of the commands.
use Rattle.std.specs.Prelude.{◌≡◌, ℕ, List, [], map, Result, Ok, Err}
use Rattle.serde_json.specs.Data.{Data}
use Rattle.meson_lex.specs.declared.kinds.Span.{Span}
use Rattle.meson_splice.specs.Patch.{then_ok}
use Rattle.meson_syntax.specs.Tree.{Argument, plain, named, pair, Expression}
use Rattle.meson_calls.specs.declared.call.Reading.{Reading}
use Rattle.meson_calls.specs.declared.call.Role.{Role}
use Rattle.meson_calls.specs.declared.refusal.Refusal.{Refusal}
use Rattle.meson_calls.specs.Loading.{Loaded, IsProject, project}
use Rattle.meson_details.specs.Details.{shown_value}
use Rattle.meson_details.specs.Values.{contents}
use Rattle.meson_steps.specs.declared.argument.ValueName.{ValueName}
use Rattle.meson_steps.specs.declared.command.Command.{Command}
use Rattle.meson_steps.specs.declared.command.Command.TheVariants as command
use Rattle.meson_steps.specs.declared.command.Done.{Done}
use Rattle.meson_steps.specs.Steps.{Step}
use Rattle.meson_plan.specs.Performing.{MayRefuse, Performs}
use Rattle.meson_plan.specs.Planning.{planned}
use Rattle.meson_plan.specs.Listing.{target_listing, kwargs_listing, value_listing}
use Rattle.meson_calls.specs.declared.call.CallName.{CallName}

-- ---- A listing is made exactly if its info command can be planned, which has no steps, and it is refused in the same way.

-- a listing that is made means no steps
abbrev pub no_steps : Result Data Refusal → Result (List Step) Refusal
no_steps listing = then_ok listing (λ d. Ok [])

abbrev pub TargetsAgree : Type 0
TargetsAgree = (l : Loaded) (reading : Reading) (name : CallName) → no_steps (target_listing l reading name) ≡ planned (project l) (command.TargetInfo name reading)

abbrev pub CallsAgree : Type 0
CallsAgree = (l : Loaded) (r : Role) (name : CallName) → no_steps (kwargs_listing l r name) ≡ planned (project l) (command.KwargsInfo r name)

-- ---- And so if the command is done on a project, which it leaves as it is, or refused.

pub record DoesNothing (done : Done) : Type 0 where
  pub no_splices : done.change.splices ≡ []
  pub untitled : done.change.title ≡ []
  pub nothing_lexed : done.relexed ≡ 0

pub record IsListedAs (l : Loaded) (c : Command) (listing : Result Data Refusal) : Type 0 where
  pub done : (d : Data) (done : Done) → listing ≡ Ok d → IsProject l → DoesNothing done → Performs l c done l
  pub made : (done : Done) (new : Loaded) → Performs l c done new → (d : Data) × (listing ≡ Ok d)
  pub refused : (e : Refusal) → MayRefuse l c e → IsProject l → listing ≡ Err e

abbrev pub TargetsListed : Type 0
TargetsListed = (l : Loaded) (reading : Reading) (name : CallName) → IsListedAs l (command.TargetInfo name reading) (target_listing l reading name)

abbrev pub CallsListed : Type 0
CallsListed = (l : Loaded) (r : Role) (name : CallName) → IsListedAs l (command.KwargsInfo r name) (kwargs_listing l r name)

abbrev pub ValuesListed : Type 0
ValuesListed = (l : Loaded) (n : ValueName) → IsListedAs l (command.ArgumentInfo n) (value_listing l n)

-- ---- What is reported of a call, an array or a dictionary are the values of all its elements, each once and in their order.

-- of an entry what is after its colon
abbrev pub element_value : {S : Type 0} → Argument S → Expression S
element_value (plain e) = e
element_value (named s x e) = e
element_value (pair s k v) = v

abbrev pub ContentsAreAll : Type 0
ContentsAreAll = (source : List ℕ) (xs : List (Argument Span)) → map (λ c. c.1) (contents source xs) ≡ map (λ x. shown_value source (element_value x)) xs
