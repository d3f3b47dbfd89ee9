-- What is asked for where no file is named, whatever the store holds.
use Rattle.std.proofs.Common.{◌≡◌, ℕ, List, Option, None, false, refl}
use Rattle.meson_json.specs.declared.member_check.UnknownMembers.{UnknownMembers}
use Rattle.meson_command.specs.declared.asked.Action.{Action}
use Rattle.meson_command.specs.declared.asked.Action.TheVariants as action
use Rattle.meson_store.specs.Content.{Content}
use Rattle.meson_rewrite.specs.Requests.{AsksFor}
use Rattle.meson_rewrite.specs.inside.Requests.{names_file}
use Rattle.meson_rewrite.specs.declared.request.ProgramRequest.{ProgramRequest}

pub names-none : (a : Action) → ((name : List ℕ) (unknown : UnknownMembers) → a ≡ action.ScriptFile name unknown → ⊥) → ((count : ℕ) (name : List ℕ) → a ≡ action.UndoChecked count name → ⊥) → names_file a ≡ false
names-none (action.ScriptFile name unknown) not-script not-checked = absurd (not-script name unknown refl)
names-none (action.UndoChecked count name) not-script not-checked = absurd (not-checked count name refl)
names-none _ not-script not-checked = refl

pub asks-anywhere : (title : List ℕ) (a : Action) (held : Option Content) (r : ProgramRequest) → names_file a ≡ false → AsksFor title a None r → AsksFor title a held r
asks-anywhere title (action.ScriptFile name unknown) held r unnamed asks = absurd (let bad : ⊥ = cc in bad)
asks-anywhere title (action.UndoChecked count name) held r unnamed asks = absurd (let bad : ⊥ = cc in bad)
asks-anywhere title _ held r unnamed asks = asks
