-- No listing holds a number with a fraction, so each has its compact text.
use Rattle.std.proofs.Common.{◌≡◌, ℕ, Bool, true, false, List, [], map, refl}
use Rattle.std.specs.Prelude.{if◌then◌else◌}
use Rattle.std.specs.Str.{is_utf8}
use Rattle.serde_json.specs.Data.{Data, null, string}
use Rattle.serde_json.specs.Written.{has_float}
use Rattle.meson_calls.specs.declared.call.Reading.{Reading}
use Rattle.meson_calls.specs.Loading.{Loaded}
use Rattle.meson_inventory.specs.Assignments.{assignments}
use Rattle.meson_inventory.specs.Holdings.{calls_held, holdings}
use Rattle.meson_inventory.specs.Inventory.{assignment_data, assignments_data, calls_data, file_data, project_data, spot_data}
use Rattle.meson_inventory.specs.Inventory as inventory
use Rattle.meson_inventory.specs.Placed.{bytes_data, call_text, placed_assignment_data, placed_assignments_data, placed_call_data, placed_calls_data, placed_project_data, unentered_data}
use Rattle.meson_script.specs.Listings.{listings_text}
use Rattle.meson_script.specs.declared.session.Report.{Report}
use Rattle.meson_script.specs.declared.session.Session.{Session}
use Rattle.meson_script.proofs.PlainListings.{all-plain, text-plain}
use Rattle.meson_rewrite.specs.Steps.{Does}
use Rattle.meson_rewrite.specs.declared.request.Step.{Step}
use Rattle.meson_rewrite.specs.declared.request.Step.TheVariants.{Run, Tell, Undo, UndoTo, UndoChecked, Redo, ForgetOldest, ForgetAll}

-- ---- what a project holds

pub project-plain : (reading : Reading) (l : Loaded) → has_float (project_data reading l) ≡ false
project-plain reading l =
    let files = all-plain file_data l.files (λ f. refl) in
    let spots = all-plain (spot_data l.files) (holdings reading l).not_entered (λ c. refl) in
    let calls = all-plain (inventory.held_data l.files) (holdings reading l).targets (λ c. rw (text-plain c.head.name, text-plain c.variable) refl) in
    rw (files, spots, calls) refl

bytes-plain : (bytes : List ℕ) → has_float (bytes_data bytes) ≡ false
bytes-plain bytes = elim (is_utf8 bytes) as (λ t. has_float (if t then string bytes else null) ≡ false) [ true ↦ refl | false ↦ refl ]

pub project-with-positions-plain : (reading : Reading) (l : Loaded) → has_float (placed_project_data reading l) ≡ false
project-with-positions-plain reading l =
    let files = all-plain file_data l.files (λ f. refl) in
    let spots = all-plain (unentered_data l.files) (holdings reading l).not_entered (λ c. rw (bytes-plain (call_text l.files c)) refl) in
    let calls = all-plain (placed_call_data l.files) (holdings reading l).targets (λ c. rw (text-plain c.head.name, text-plain c.variable) refl) in
    rw (files, spots, calls) refl

-- ---- its calls of a function, and its assignments

pub calls-plain : (l : Loaded) (function : List ℕ) → has_float (calls_data l function) ≡ false
calls-plain l function = rw (all-plain (inventory.held_data l.files) (calls_held l function) (λ c. rw (text-plain c.head.name, text-plain c.variable) refl)) refl

pub calls-with-positions-plain : (l : Loaded) (function : List ℕ) → has_float (placed_calls_data l function) ≡ false
calls-with-positions-plain l function = rw (all-plain (placed_call_data l.files) (calls_held l function) (λ c. rw (text-plain c.head.name, text-plain c.variable) refl)) refl

pub assignments-plain : (l : Loaded) → has_float (assignments_data l) ≡ false
assignments-plain l = rw (all-plain (assignment_data l.files) (assignments l) (λ a. refl)) refl

pub assignments-with-positions-plain : (l : Loaded) → has_float (placed_assignments_data l) ≡ false
assignments-with-positions-plain l = rw (all-plain (placed_assignment_data l.files) (assignments l) (λ a. refl)) refl

-- ---- what a step lists

pub does-list : (json : Bool) (step : Step) (old new : Session) (report : Report) → Does json step old report new → (listings : List Data) × (report.info ≡ listings_text listings)
does-list json (Run script title) old new report k = (k.shown, k.info)
does-list json (Tell script) old new report k = (k.shown, k.info)
does-list json Undo old new report s = ([], s.info)
does-list json (UndoTo count) old new report s = ([], s.info)
does-list json (UndoChecked count kept) old new report s = ([], s.1.info)
does-list json (ForgetOldest count) old new report s = ([], s.1.info)
does-list json ForgetAll old new report s = ([], s.1.info)
does-list json Redo old new report s = ([], s.info)
