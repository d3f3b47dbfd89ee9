-- What is listed of a session.
use Rattle.std.specs.Prelude.{ℕ, Bool, true, false, List, if◌then◌else◌}
use Rattle.serde_json.specs.Data.{Data}
use Rattle.serde_json.specs.Written.{compact_text}
use Rattle.meson_calls.specs.declared.call.Reading.{Reading}
use Rattle.meson_calls.specs.Loading.{Loaded}
use Rattle.meson_inventory.specs.Inventory.{assignments_data, assignments_lines, calls_data, calls_lines, project_data, project_lines}
use Rattle.meson_inventory.specs.Placed.{placed_assignments_data, placed_calls_data, placed_project_data}
use Rattle.meson_script.specs.declared.session.Session.{Session}
use Rattle.meson_sums.specs.Sums.{sums}
use Rattle.meson_rewrite.specs.Changes.{history_lines}
use Rattle.meson_rewrite.specs.Lines.{line}
use Rattle.meson_rewrite.specs.Objects.{history_data, sums_data}
use Rattle.meson_rewrite.specs.declared.request.Listing.{Listing}
use Rattle.meson_rewrite.specs.declared.request.Listing.TheVariants.{History, Holdings, Calls, Assignments, Sums}

-- what a project holds, with its build files read so: one line of JSON, or lines for people
abbrev pub holdings_text : Reading → Bool → Loaded → List ℕ
holdings_text reading true project = line (compact_text (project_data reading project))
holdings_text reading false project = project_lines reading project

-- its calls of a function
abbrev pub calls_text : Bool → List ℕ → Loaded → List ℕ
calls_text true function project = line (compact_text (calls_data project function))
calls_text false function project = calls_lines project function

-- its assignments
abbrev pub assignments_text : Bool → Loaded → List ℕ
assignments_text true project = line (compact_text (assignments_data project))
assignments_text false project = assignments_lines project

-- as lines, but for a project that is to be listed as JSON
abbrev pub listed_text : Reading → Listing → Session → List ℕ
listed_text reading History session = history_lines session.history
listed_text reading (Holdings json) session = holdings_text reading json session.project
listed_text reading (Calls function json) session = calls_text json function session.project
listed_text reading (Assignments json) session = assignments_text json session.project
listed_text reading Sums session = sums session.project.files

abbrev pub listed_data : Reading → Listing → Session → Data
listed_data reading History session = history_data session.history
listed_data reading (Holdings json) session = placed_project_data reading session.project
listed_data reading (Calls function json) session = placed_calls_data session.project function
listed_data reading (Assignments json) session = placed_assignments_data session.project
listed_data reading Sums session = sums_data session.project.files

-- where the answer is JSON, one line of it
abbrev pub listing_text : Reading → Bool → Listing → Session → List ℕ
listing_text reading json listing session = if json then line (compact_text (listed_data reading listing session)) else listed_text reading listing session
