-- Build files, and what is listed of them as it is written.
use Rattle.std.specs.Prelude.{◌≡◌, ℕ, List, [], ◌∷◌, codes, Result, Ok, Err}
use Rattle.serde_json.specs.Data.{Data}
use Rattle.serde_json.specs.Written.{compact_text}
use Rattle.meson_splice.specs.declared.file_set.File.{File}
use Rattle.meson_splice.specs.Patch.{then_ok}
use Rattle.meson_calls.specs.declared.call.Reading.TheVariants.{Written}
use Rattle.meson_calls.specs.declared.call.Role.TheVariants as role
use Rattle.meson_calls.specs.declared.refusal.Refusal.{Refusal}
use Rattle.meson_calls.specs.declared.refusal.Refusal.TheVariants.{DuplicateKeyword, NotFound}
use Rattle.meson_calls.specs.Loading.{IsProject, Loaded}
use Rattle.meson_json.specs.Rows.{double_quoted}
use Rattle.meson_plan.specs.Listing.{kwargs_listing, target_listing}
use Rattle.meson_calls.specs.Searching.{anywhere}

abbrev one_file : List ℕ → List File
one_file text = record { name = codes "meson.build"; bytes = text } ∷ []

abbrev as_text : Result Data Refusal → Result (List ℕ) Refusal
as_text listing = then_ok listing (λ d. Ok (compact_text d))

-- the listing of each project that has this build file alone
abbrev of_file : List ℕ → (Loaded → Result Data Refusal) → Result (List ℕ) Refusal → Type 0
of_file text listing is = (l : Loaded) → IsProject l → l.files ≡ one_file text → as_text (listing l) ≡ is

-- sources that a variable holds, each with its place
abbrev pub TargetRow : Type 0
TargetRow =
    of_file (codes "project('p', 'cpp')\nsrc = ['main.cpp', 'fileA.cpp']\nexe1 = executable('testExe', src)\n") (λ l. target_listing l Written (anywhere (codes "testExe")))
    (Ok (double_quoted (codes "{'at':59,'extra_files':[],'file':'meson.build','function':'executable','hidden':false,'name':'testExe','opaque_extra_files':0,'opaque_sources':0,'sources':[{'at':27,'file':'meson.build','value':'main.cpp','variable':'src'},{'at':39,'file':'meson.build','value':'fileA.cpp','variable':'src'}],'type':'target'}")))

abbrev pub ProjectRow : Type 0
ProjectRow =
    of_file (codes "project('p', 'c', version: '0.9') # v\n") (λ l. kwargs_listing l role.Project (anywhere (codes "/")))
    (Ok (double_quoted (codes "{'at':0,'file':'meson.build','function':'project','hidden':false,'kwargs':{'version':'0.9'},'type':'kwargs'}")))

-- a variable, what is not a literal, and a list, in the order of the keys
abbrev pub DependencyRow : Type 0
DependencyRow =
    of_file (codes "d = dependency('z', version: ['>1', '<2'], native: f(1), method: m)\n") (λ l. kwargs_listing l role.Dependency (anywhere (codes "d")))
    (Ok (double_quoted (codes "{'at':4,'file':'meson.build','function':'dependency','hidden':false,'kwargs':{'method':{'id':'m'},'native':{'opaque':'f(1)'},'version':['>1','<2']},'type':'kwargs'}")))

abbrev pub RefusedRows : Type 0
RefusedRows =
    of_file (codes "x = 1\n") (λ l. target_listing l Written (anywhere (codes "e"))) (Err NotFound)
    × of_file (codes "library('e', pie: true, pie: true)\n") (λ l. kwargs_listing l role.Target (anywhere (codes "e"))) (Err (DuplicateKeyword (codes "pie")))
