-- Command lines with `--follow`, each with its request.
use Rattle.std.specs.Prelude.{false, true, [], ◌∷◌, codes, Some, None, Result, Ok, Err}
use Rattle.meson_calls.specs.Searching.{anywhere}
use Rattle.meson_calls.specs.declared.call.Reading.TheVariants.{Followed}
use Rattle.meson_steps.specs.declared.command.Command.TheVariants as command
use Rattle.meson_steps.specs.declared.source_change.SharedLists.TheVariants.{Kept, Changed}
use Rattle.meson_steps.specs.declared.source_change.SourceChange.TheVariants as sources
use Rattle.meson_json.specs.declared.member_check.UnknownMembers.TheVariants as unknown
use Rattle.meson_command.specs.Actions.{run}
use Rattle.meson_command.specs.Asking.{help, no_flags}
use Rattle.meson_command.specs.Rows.{asks, flagged, in_place, texted}
use Rattle.meson_command.specs.declared.asked.Action.{Action}
use Rattle.meson_command.specs.declared.asked.Action.TheVariants as action
use Rattle.meson_command.specs.declared.asked.Action.TheVariants.{Info, ScriptText, ScriptFile, Undo, UndoTo, UndoChecked, Redo, History, ForgetOldest, Sums}
use Rattle.meson_command.specs.declared.asked.Asked.{Asked}
use Rattle.meson_command.specs.declared.asked.Flags.{Flags}
use Rattle.meson_command.specs.declared.fault.UsageFault.{UsageFault}
use Rattle.meson_command.specs.declared.fault.UsageFault.TheVariants.{Usage}

-- with the build files read as Meson runs them
abbrev following : Flags
following = record no_flags { reading = Followed }

abbrev followed : Action → Result Asked UsageFault
followed = flagged following

-- what is done with the build files read as Meson runs them, and for which words it is refused
abbrev pub Following : Type 0
Following =
    asks (codes "--follow target e info") (followed (Info (command.TargetInfo (anywhere (codes "e")) Followed)))
    × asks (codes "--json --follow tgt e info") (flagged (record following { json = true }) (Info (command.TargetInfo (anywhere (codes "e")) Followed)))
    × asks (codes "--follow --in s target e info") (followed (Info (command.TargetInfo (record { id = codes "e"; folder = Some (codes "s") }) Followed)))
    × asks (codes "--texts t --follow target e info") (texted following (codes "t") (Info (command.TargetInfo (anywhere (codes "e")) Followed)))
    × asks (codes "--follow list") (followed (action.List false))
    × asks (codes "--follow list --json") (followed (action.List true))
    × asks (codes "--follow list --of executable") (followed (action.ListCalls (codes "executable") false))
    × asks (codes "--follow list --of variable") (followed (action.ListAssignments false))
    × asks (codes "--follow list --sums") (followed Sums)
    × asks (codes "--follow history") (followed History)
    × asks (codes "--follow history --forget 2") (followed (ForgetOldest 2))
    × asks (codes "--follow undo") (followed Undo)
    × asks (codes "--follow undo --to 2") (followed (UndoTo 2))
    × asks (codes "--follow undo --check F") (followed (UndoChecked 1 (codes "F")))
    × asks (codes "--follow redo") (followed Redo)
    × asks (codes "--follow command -") (followed (ScriptFile (codes "-") unknown.Ignored))
    × asks (codes "--follow command [1]") (followed (ScriptText (codes "[1]") unknown.Ignored))
    × asks (codes "--dry-run --follow command -") (flagged (record following { dry_run = true }) (ScriptFile (codes "-") unknown.Ignored))
    × asks (codes "--json --follow list") (flagged (record following { json = true }) (action.List false))
    × asks (codes "--follow target l add_target") (Err Usage)
    × asks (codes "--follow kwargs set target e install false") (Err Usage)
    × asks (codes "--follow kwargs info target e") (Err Usage)
    × asks (codes "--follow default-options set a 1") (Err Usage)
    × asks (codes "--follow arg info target e sources") (Err Usage)
    × asks (codes "--follow arg add target e sources a.c") (Err Usage)
    × asks (codes "--follow code append meson.build y=1") (Err Usage)
    × asks (codes "--follow code remove target e") (Err Usage)
    × asks (codes "--in s --follow list") (Err Usage)
    × asks (codes "--follow --follow target e info") (Err Usage)
    × asks (codes "--follow=true target e info") (Err Usage)
    × asks (codes "target e info --follow") (Err Usage)
    × asks (codes "--follow --help") (Ok help)

-- what is done to sources where variables are followed: lists that another target gets too stay, or are changed by `--follow=shared`
abbrev pub FollowedSources : Type 0
FollowedSources =
    asks (codes "--follow target e add a.c b.c")
    (followed (run (command.FollowedSources (anywhere (codes "e")) (sources.Add (codes "a.c" ∷ codes "b.c" ∷ [])) Kept)))
    × asks (codes "--follow target e rm a.c") (followed (run (command.FollowedSources (anywhere (codes "e")) (sources.Remove (codes "a.c" ∷ [])) Kept)))
    × asks (codes "--follow=own target e add a.c") (followed (run (command.FollowedSources (anywhere (codes "e")) (sources.Add (codes "a.c" ∷ [])) Kept)))
    × asks (codes "--follow=shared target e add a.c")
    (followed (run (command.FollowedSources (anywhere (codes "e")) (sources.Add (codes "a.c" ∷ [])) Changed)))
    × asks (codes "--in s --follow=shared tgt e rm a.c")
    (followed (run (command.FollowedSources (record { id = codes "e"; folder = Some (codes "s") }) (sources.Remove (codes "a.c" ∷ [])) Changed)))
    × asks (codes "--follow=shared --in=s tgt e rm a.c")
    (followed (run (command.FollowedSources (record { id = codes "e"; folder = Some (codes "s") }) (sources.Remove (codes "a.c" ∷ [])) Changed)))
    × asks (codes "--dry-run --title more --follow=own --texts t target e rm a.c")
    (Ok (record {
      dir = None;
      title = codes "more";
      flags = record following { dry_run = true };
      texts = Some (codes "t");
      action = run (command.FollowedSources (anywhere (codes "e")) (sources.Remove (codes "a.c" ∷ [])) Kept);
    }))
    × asks (codes "--follow=own list") (followed (action.List false))
    × asks (codes "--follow=own target e info") (followed (Info (command.TargetInfo (anywhere (codes "e")) Followed)))
    × asks (codes "--follow=shared target e info") (Err Usage)
    × asks (codes "--follow=shared list") (Err Usage)
    × asks (codes "--follow=shared undo") (Err Usage)
    × asks (codes "--follow=shared command -") (Err Usage)
    × asks (codes "--follow=shared arg add target e sources a.c") (Err Usage)
    × asks (codes "--follow target e add_extra_files x.h") (Err Usage)
    × asks (codes "--follow target e rm_target") (Err Usage)
    × asks (codes "--follow target e add --sorted a.c") (Err Usage)
    × asks (codes "--follow=shared target e add a.c --sorted") (Err Usage)
    × asks (codes "--follow target e rm --sorted a.c") (Err Usage)
    × asks (codes "--follow=shared --follow=shared target e add a.c") (Err Usage)
    × asks (codes "--follow --follow=own target e add a.c") (Err Usage)
    × asks (codes "--follow= target e add a.c") (Err Usage)
    × asks (codes "--follow=own,shared target e add a.c") (Err Usage)
    × asks (codes "--follow shared target e add a.c") (Err Usage)
    × asks (codes "--title --follow=shared target e add a.c") (Err Usage)
    × asks (codes "target --follow=shared e add a.c") (Err Usage)
    × asks (codes "target e add -- --follow=shared") (in_place (run (command.SourcesAdd (anywhere (codes "e")) (codes "--follow=shared" ∷ []))))

-- a source is renamed so, too; the old name and the new one are given, and no other
abbrev pub FollowedNames : Type 0
FollowedNames =
    asks (codes "--follow target e rename a.c b.c") (followed (run (command.FollowedSources (anywhere (codes "e")) (sources.Rename (codes "a.c") (codes "b.c")) Kept)))
    × asks (codes "--follow=own target e rename a.c b.c")
    (followed (run (command.FollowedSources (anywhere (codes "e")) (sources.Rename (codes "a.c") (codes "b.c")) Kept)))
    × asks (codes "--follow=shared target e rename a.c b.c")
    (followed (run (command.FollowedSources (anywhere (codes "e")) (sources.Rename (codes "a.c") (codes "b.c")) Changed)))
    × asks (codes "--in s --follow tgt e rename a.c b.c")
    (followed (run (command.FollowedSources (record { id = codes "e"; folder = Some (codes "s") }) (sources.Rename (codes "a.c") (codes "b.c")) Kept)))
    × asks (codes "--follow=shared --in=s tgt e rename a.c b.c")
    (followed (run (command.FollowedSources (record { id = codes "e"; folder = Some (codes "s") }) (sources.Rename (codes "a.c") (codes "b.c")) Changed)))
    × asks (codes "--dry-run --title more --follow=shared --texts t target e rename a.c b.c")
    (Ok (record {
      dir = None;
      title = codes "more";
      flags = record following { dry_run = true };
      texts = Some (codes "t");
      action = run (command.FollowedSources (anywhere (codes "e")) (sources.Rename (codes "a.c") (codes "b.c")) Changed);
    }))
    × asks (codes "--follow target e rename -- -a.c --follow=shared")
    (followed (run (command.FollowedSources (anywhere (codes "e")) (sources.Rename (codes "-a.c") (codes "--follow=shared")) Kept)))
    × asks (codes "--follow target e rename a.c") (Err Usage)
    × asks (codes "--follow=shared target e rename a.c b.c d.c") (Err Usage)
    × asks (codes "--follow target e rename") (Err Usage)
    × asks (codes "--follow target e rename --sorted a.c b.c") (Err Usage)
    × asks (codes "--follow=shared target e rename a.c b.c --sorted") (Err Usage)
    × asks (codes "--follow=all target e rename a.c b.c") (Err Usage)
    × asks (codes "target e rename a.c b.c --follow") (Err Usage)
    × asks (codes "target --follow=shared e rename a.c b.c") (Err Usage)
