-- Texts of scripts, each with its commands or its first fault; and logs.
use Rattle.std.specs.Prelude.{◌≡◌, ℕ, ◌==◌, List, [], ◌∷◌, map, codes, if◌then◌else◌, false, true, Option, Some, None, Result, Ok, Err}
use Rattle.serde_json.specs.Data.{Data, Items, array}
use Rattle.serde_json.specs.Events.{items_len}
use Rattle.serde_json.specs.Read.{read}
use Rattle.meson_splice.specs.declared.history.History.{History}
use Rattle.meson_splice.specs.declared.splice.Splice.{Splice}
use Rattle.meson_calls.specs.declared.call.Reading.TheVariants.{Written, Followed}
use Rattle.meson_calls.specs.declared.call.Role.TheVariants as role
use Rattle.meson_steps.specs.declared.argument.Callee.{Callee}
use Rattle.meson_steps.specs.declared.argument.Callee.TheVariants as callee
use Rattle.meson_steps.specs.declared.argument.PlaceName.{PlaceName}
use Rattle.meson_steps.specs.declared.argument.PlaceName.TheVariants as name
use Rattle.meson_steps.specs.declared.argument.ValueChange.TheVariants as change
use Rattle.meson_steps.specs.declared.argument.Search.{Search}
use Rattle.meson_steps.specs.declared.argument.ValueName.{ValueName}
use Rattle.meson_steps.specs.declared.command.CodePlace.TheVariants as place
use Rattle.meson_steps.specs.declared.given.Given.TheVariants as given
use Rattle.meson_steps.specs.declared.command.Command.{Command}
use Rattle.meson_steps.specs.declared.command.Command.TheVariants as command
use Rattle.meson_steps.specs.declared.command.Setting.TheVariants as setting
use Rattle.meson_steps.specs.declared.source_change.SharedLists.TheVariants.{Kept, Changed}
use Rattle.meson_steps.specs.declared.source_change.SourceChange.TheVariants as sources
use Rattle.meson_json.specs.Log.{log_of, logged}
use Rattle.meson_json.specs.Scripts.{script_of}
use Rattle.meson_json.specs.declared.member_check.UnknownMembers.TheVariants.{Ignored, Refused}
use Rattle.meson_json.specs.declared.fault.ScriptFault.{ScriptFault}
use Rattle.meson_calls.specs.Searching.{anywhere}
use Rattle.meson_json.specs.declared.fault.ScriptFault.TheVariants.{NotJson, NotArray, TooMany, NotObject, UnknownType, BadField, UnknownOperation, Unsupported, UnknownMember}

-- a text of JSON, in which a single quote (39) is written for a double one (34)
abbrev pub double_quoted : List ℕ → List ℕ
double_quoted text = map (λ b. if b == 39 then 34 else b) text

abbrev gives : List ℕ → Result (List Command) ScriptFault → Type 0
gives text commands = script_of Ignored (read (double_quoted text)) ≡ commands

-- the same where members that are not known are refused
abbrev gives_known : List ℕ → Result (List Command) ScriptFault → Type 0
gives_known text commands = script_of Refused (read (double_quoted text)) ≡ commands

-- an entry alone
abbrev stands_for : List ℕ → Command → Type 0
stands_for text c = gives text (Ok (c ∷ []))

-- ---- scripts

abbrev pub TargetEntries : Type 0
TargetEntries =
    stands_for (codes "[{'type':'target','target':'e','operation':'src_add','sources':['b.c','a.c']}]")
    (command.SourcesAdd (anywhere (codes "e")) (codes "b.c" ∷ codes "a.c" ∷ []))
    × stands_for (codes "[{'type':'target','target':'e','operation':'src_rm','sources':['a.c']}]") (command.SourcesRemove (anywhere (codes "e")) (codes "a.c" ∷ []))
    × stands_for (codes "[{'type':'target','target':'e','operation':'extra_files_add','sources':['x.h']}]") (command.ExtraAdd (anywhere (codes "e")) (codes "x.h" ∷ []))
    × stands_for (codes "[{'type':'target','target':'e','operation':'extra_files_rm'}]") (command.ExtraRemove (anywhere (codes "e")) [])
    × stands_for (codes "[{'type':'target','target':'e','operation':'rename','sources':['a.c','b.c']}]")
    (command.SourcesRename (anywhere (codes "e")) (codes "a.c") (codes "b.c"))
    × gives (codes "[{'type':'target','target':'e','operation':'rename','sources':['a.c']}]") (Err (BadField 0 (codes "sources")))
    × stands_for (codes "[{'type':'target','target':'l','operation':'target_add','sources':['a.c'],'subdir':'s','target_type':'jar'}]")
    (command.TargetAdd (codes "l") (codes "jar") (codes "s") (codes "a.c" ∷ []))
    × stands_for (codes "[{'type':'target','target':'l','operation':'target_add'}]") (command.TargetAdd (codes "l") (codes "executable") [] [])
    × stands_for (codes "[{'type':'target','target':'l','operation':'target_rm','kind':1}]") (command.TargetRemove (anywhere (codes "l")))
    × stands_for (codes "[{'type':'x','target':'e','operation':'info','type':'target'}]") (command.TargetInfo (anywhere (codes "e")) Written)
    × stands_for (codes "[{'type':'target','target':'e','operation':'src_add','in':'s'}]") (command.SourcesAdd (record { id = codes "e"; folder = Some (codes "s") }) [])
    × stands_for (codes "[{'type':'target','target':'l','operation':'target_add','in':1}]") (command.TargetAdd (codes "l") (codes "executable") [] [])
    × gives (codes "[{'type':'target','target':'e','operation':'info','in':1}]") (Err (BadField 0 (codes "in")))

-- `follow` is a member of `info`, which takes truth values, and of the changes of sources, which take `"shared"` too, and an addition then no `sorted` that is
-- `true`
abbrev pub FollowEntries : Type 0
FollowEntries =
    stands_for (codes "[{'type':'target','target':'e','operation':'info','follow':true}]") (command.TargetInfo (anywhere (codes "e")) Followed)
    × stands_for (codes "[{'type':'target','target':'e','operation':'info','follow':false}]") (command.TargetInfo (anywhere (codes "e")) Written)
    × stands_for (codes "[{'type':'target','target':'e','operation':'info','follow':true,'in':'s'}]")
    (command.TargetInfo (record { id = codes "e"; folder = Some (codes "s") }) Followed)
    × gives (codes "[{'type':'target','target':'e','operation':'info','follow':'true'}]") (Err (BadField 0 (codes "follow")))
    × gives (codes "[{'type':'target','target':'e','operation':'info','follow':'shared'}]") (Err (BadField 0 (codes "follow")))
    × gives (codes "[{'type':'target','target':'e','operation':'info','follow':null}]") (Err (BadField 0 (codes "follow")))
    × gives (codes "[{'type':'target','target':'e','operation':'info','follow':1,'in':1}]") (Err (BadField 0 (codes "in")))
    × stands_for (codes "[{'type':'target','target':'e','operation':'src_add','sources':['a.c'],'follow':true}]")
    (command.FollowedSources (anywhere (codes "e")) (sources.Add (codes "a.c" ∷ [])) Kept)
    × stands_for (codes "[{'type':'target','target':'e','operation':'src_add','sources':['a.c','b.c'],'follow':'shared','in':'s'}]")
    (command.FollowedSources (record { id = codes "e"; folder = Some (codes "s") }) (sources.Add (codes "a.c" ∷ codes "b.c" ∷ [])) Changed)
    × stands_for (codes "[{'type':'target','target':'e','operation':'src_rm','sources':['a.c'],'follow':true}]")
    (command.FollowedSources (anywhere (codes "e")) (sources.Remove (codes "a.c" ∷ [])) Kept)
    × stands_for (codes "[{'type':'target','target':'e','operation':'src_rm','sources':['a.c'],'follow':'shared'}]")
    (command.FollowedSources (anywhere (codes "e")) (sources.Remove (codes "a.c" ∷ [])) Changed)
    × stands_for (codes "[{'type':'target','target':'e','operation':'src_add','sources':['a.c'],'follow':false}]")
    (command.SourcesAdd (anywhere (codes "e")) (codes "a.c" ∷ []))
    × stands_for (codes "[{'type':'target','target':'e','operation':'src_rm','sources':['a.c'],'follow':false}]")
    (command.SourcesRemove (anywhere (codes "e")) (codes "a.c" ∷ []))
    × gives (codes "[{'type':'target','target':'e','operation':'src_add','sources':['a.c'],'follow':'own'}]") (Err (BadField 0 (codes "follow")))
    × gives (codes "[{'type':'target','target':'e','operation':'src_add','sources':['a.c'],'follow':null}]") (Err (BadField 0 (codes "follow")))
    × gives (codes "[{'type':'target','target':'e','operation':'src_rm','sources':['a.c'],'follow':'true'}]") (Err (BadField 0 (codes "follow")))
    × gives (codes "[{'type':'target','target':'e','operation':'src_rm','sources':['a.c'],'follow':1,'in':1}]") (Err (BadField 0 (codes "in")))
    × gives (codes "[{'type':'target','target':'e','operation':'src_add','sources':['a.c'],'follow':true,'sorted':true}]") (Err (BadField 0 (codes "sorted")))
    × gives (codes "[{'type':'target','target':'e','operation':'src_add','sources':['a.c'],'follow':'shared','sorted':true}]")
    (Err (BadField 0 (codes "sorted")))
    × gives (codes "[{'type':'target','target':'e','operation':'src_add','sources':['a.c'],'follow':1,'sorted':1}]") (Err (BadField 0 (codes "follow")))
    × stands_for (codes "[{'type':'target','target':'e','operation':'src_add','sources':['a.c'],'follow':true,'sorted':false}]")
    (command.FollowedSources (anywhere (codes "e")) (sources.Add (codes "a.c" ∷ [])) Kept)
    × stands_for (codes "[{'type':'target','target':'e','operation':'src_add','sources':['a.c'],'follow':false,'sorted':true}]")
    (command.SourcesAddSorted (anywhere (codes "e")) (codes "a.c" ∷ []))
    × stands_for (codes "[{'type':'target','target':'e','operation':'target_rm','follow':1}]") (command.TargetRemove (anywhere (codes "e")))
    × stands_for (codes "[{'type':'target','target':'e','operation':'extra_files_add','sources':['x.h'],'follow':1}]")
    (command.ExtraAdd (anywhere (codes "e")) (codes "x.h" ∷ []))

-- and beside `rename` it is known for these alone
abbrev pub FollowMembers : Type 0
FollowMembers =
    gives_known (codes "[{'type':'target','target':'e','operation':'info','follow':true}]") (Ok (command.TargetInfo (anywhere (codes "e")) Followed ∷ []))
    × gives_known (codes "[{'type':'target','target':'e','operation':'info','follow':false}]") (Ok (command.TargetInfo (anywhere (codes "e")) Written ∷ []))
    × gives_known (codes "[{'type':'target','target':'e','operation':'src_add','sources':['a.c'],'follow':'shared','in':'s','sorted':false}]")
    (Ok (command.FollowedSources (record { id = codes "e"; folder = Some (codes "s") }) (sources.Add (codes "a.c" ∷ [])) Changed ∷ []))
    × gives_known (codes "[{'type':'target','target':'e','operation':'src_rm','sources':['a.c'],'follow':true,'in':'s'}]")
    (Ok (command.FollowedSources (record { id = codes "e"; folder = Some (codes "s") }) (sources.Remove (codes "a.c" ∷ [])) Kept ∷ []))
    × gives_known (codes "[{'type':'target','target':'e','operation':'src_add','sources':['a.c'],'follow':false,'sorted':true}]")
    (Ok (command.SourcesAddSorted (anywhere (codes "e")) (codes "a.c" ∷ []) ∷ []))
    × gives_known (codes "[{'type':'target','target':'e','operation':'src_rm','sources':['a.c'],'follow':false}]")
    (Ok (command.SourcesRemove (anywhere (codes "e")) (codes "a.c" ∷ []) ∷ []))
    × gives_known (codes "[{'type':'target','target':'e','operation':'src_rm','sources':['a.c'],'follow':true,'sorted':true}]")
    (Err (UnknownMember 0 (codes "sorted")))
    × gives_known (codes "[{'type':'target','target':'e','operation':'extra_files_rm','sources':['x.h'],'follow':true}]")
    (Err (UnknownMember 0 (codes "follow")))
    × gives_known (codes "[{'type':'kwargs','function':'target','id':'e','operation':'info','follow':true}]") (Err (UnknownMember 0 (codes "follow")))

-- `rename` takes `follow` as the other changes of sources do, and reads it after `in`, before it counts the names; `sorted` is no member of it
abbrev pub FollowedNames : Type 0
FollowedNames =
    stands_for (codes "[{'type':'target','target':'e','operation':'rename','sources':['a.c','b.c'],'follow':true}]")
    (command.FollowedSources (anywhere (codes "e")) (sources.Rename (codes "a.c") (codes "b.c")) Kept)
    × stands_for (codes "[{'type':'target','target':'e','operation':'rename','sources':['a.c','b.c'],'follow':'shared'}]")
    (command.FollowedSources (anywhere (codes "e")) (sources.Rename (codes "a.c") (codes "b.c")) Changed)
    × stands_for (codes "[{'type':'target','target':'e','operation':'rename','sources':['a.c','b.c'],'follow':'shared','in':'s'}]")
    (command.FollowedSources (record { id = codes "e"; folder = Some (codes "s") }) (sources.Rename (codes "a.c") (codes "b.c")) Changed)
    × stands_for (codes "[{'type':'target','target':'e','operation':'rename','sources':['a.c','b.c'],'follow':false}]")
    (command.SourcesRename (anywhere (codes "e")) (codes "a.c") (codes "b.c"))
    × stands_for (codes "[{'type':'target','target':'e','operation':'rename','sources':['a.c','b.c'],'follow':true,'sorted':true}]")
    (command.FollowedSources (anywhere (codes "e")) (sources.Rename (codes "a.c") (codes "b.c")) Kept)
    × gives (codes "[{'type':'target','target':'e','operation':'rename','sources':['a.c','b.c'],'follow':1}]") (Err (BadField 0 (codes "follow")))
    × gives (codes "[{'type':'target','target':'e','operation':'rename','sources':['a.c','b.c'],'follow':null}]") (Err (BadField 0 (codes "follow")))
    × gives (codes "[{'type':'target','target':'e','operation':'rename','sources':['a.c','b.c'],'follow':'own'}]") (Err (BadField 0 (codes "follow")))
    × gives (codes "[{'type':'target','target':'e','operation':'rename','sources':['a.c','b.c'],'follow':1,'in':1}]") (Err (BadField 0 (codes "in")))
    × gives (codes "[{'type':'target','target':'e','operation':'rename','sources':1,'follow':1,'in':1}]") (Err (BadField 0 (codes "sources")))
    × gives (codes "[{'type':'target','target':'e','operation':'rename','sources':['a.c'],'follow':1}]") (Err (BadField 0 (codes "follow")))
    × gives (codes "[{'type':'target','target':'e','operation':'rename','sources':['a.c'],'follow':true}]") (Err (BadField 0 (codes "sources")))
    × gives (codes "[{'type':'target','target':'e','operation':'rename','sources':['a.c','b.c','d.c'],'follow':'shared'}]")
    (Err (BadField 0 (codes "sources")))
    × gives (codes "[{'type':'target','target':'e','operation':'rename','follow':true}]") (Err (BadField 0 (codes "sources")))
    × gives_known (codes "[{'type':'target','target':'e','operation':'rename','sources':['a.c','b.c'],'follow':true,'in':'s'}]")
    (Ok (command.FollowedSources (record { id = codes "e"; folder = Some (codes "s") }) (sources.Rename (codes "a.c") (codes "b.c")) Kept ∷ []))
    × gives_known (codes "[{'type':'target','target':'e','operation':'rename','sources':['a.c','b.c'],'follow':'shared'}]")
    (Ok (command.FollowedSources (anywhere (codes "e")) (sources.Rename (codes "a.c") (codes "b.c")) Changed ∷ []))
    × gives_known (codes "[{'type':'target','target':'e','operation':'rename','sources':['a.c','b.c'],'follow':false}]")
    (Ok (command.SourcesRename (anywhere (codes "e")) (codes "a.c") (codes "b.c") ∷ []))
    × gives_known (codes "[{'type':'target','target':'e','operation':'rename','sources':['a.c','b.c'],'follow':true,'sorted':true}]")
    (Err (UnknownMember 0 (codes "sorted")))
    × gives_known (codes "[{'type':'target','target':'e','operation':'rename','sources':['a.c','b.c'],'follow':false,'sorted':false}]")
    (Err (UnknownMember 0 (codes "sorted")))

-- keys and options in the order of their bytes
abbrev pub ArgumentEntries : Type 0
ArgumentEntries =
    stands_for (codes "[{'type':'kwargs','function':'project','id':'/','operation':'set','kwargs':{'version':'2','license':['a','b']}}]")
    (command.KwargsSet role.Project (anywhere (codes "/")) ((codes "license", setting.Texts (codes "a" ∷ codes "b" ∷ []))
    ∷ (codes "version", setting.Text (codes "2")) ∷ []))
    × stands_for (codes "[{'type':'kwargs','function':'target','id':'e','operation':'set','kwargs':{'install':true}}]")
    (command.KwargsSet role.Target (anywhere (codes "e")) ((codes "install", setting.Bool true) ∷ []))
    × stands_for (codes "[{'type':'kwargs','function':'dependency','id':'z','operation':'add','kwargs':{'version':'<2'}}]")
    (command.KwargsAdd role.Dependency (anywhere (codes "z")) ((codes "version", setting.Text (codes "<2")) ∷ []))
    × stands_for (codes "[{'type':'kwargs','function':'dependency','id':'z','operation':'remove'}]") (command.KwargsRemove role.Dependency (anywhere (codes "z")) [])
    × stands_for (codes "[{'type':'kwargs','function':'target','id':'e','operation':'delete','kwargs':{'install':null,'a':1}}]")
    (command.KwargsDelete role.Target (anywhere (codes "e")) (codes "a" ∷ codes "install" ∷ []))
    × stands_for (codes "[{'type':'kwargs','function':'project','id':'/','operation':'info'}]") (command.KwargsInfo role.Project (anywhere (codes "/")))
    × stands_for (codes "[{'type':'kwargs','function':'target','id':'e','operation':'info','in':'.'}]")
    (command.KwargsInfo role.Target (record { id = codes "e"; folder = Some (codes ".") }))
    × stands_for (codes "[{'type':'default_options','operation':'set','options':{'warning_level':2,'b_lto':true}}]")
    (command.OptionsSet ((codes "b_lto", codes "true") ∷ (codes "warning_level", codes "2") ∷ []))
    × stands_for (codes "[{'type':'default_options','operation':'delete','options':{'cpp_std':0}}]") (command.OptionsDelete (codes "cpp_std" ∷ []))

-- a call of a function, by its first text or its variable
abbrev called : Callee → List ℕ → PlaceName
called f id = name.Call f id

-- the value of a place that is searched for in all files
abbrev at_keys : PlaceName → List (List ℕ) → ValueName
at_keys n keys = record { place = record { name = n; folder = None }; keys = keys }

-- one value, several, and none; keys with dots and one by one; a folder
abbrev pub ValueEntries : Type 0
ValueEntries =
    stands_for (codes "[{'type':'arg','operation':'set','function':'dependency','id':'z','key':'version','values':['>=2']}]")
    (command.Argument (at_keys (called (callee.Function (codes "dependency")) (codes "z")) (codes "version" ∷ [])) (change.Set (given.Text (codes ">=2"))))
    × stands_for (codes "[{'type':'arg','operation':'set','function':'target','id':'e','key':'c_args','values':['-DX',true]}]")
    (command.Argument (at_keys (called callee.Target (codes "e")) (codes "c_args" ∷ [])) (change.SetAll (given.Text (codes "-DX") ∷ given.Switch true ∷ [])))
    × stands_for (codes "[{'type':'arg','operation':'delete','function':'variable','id':'x','key':'a.b'}]")
    (command.Argument (at_keys (name.Variable (codes "x")) (codes "a" ∷ codes "b" ∷ [])) change.Delete)
    × stands_for (codes "[{'type':'arg','operation':'delete','function':'at','id':'s/meson.build:12','key':['a.b'],'in':'s'}]")
    (command.Argument (record { place = record { name = name.Line (codes "s/meson.build") 12; folder = Some (codes "s") }; keys = codes "a.b" ∷ [] }) change.Delete)
    × stands_for (codes "[{'type':'arg','operation':'set','function':'project','id':'/','key':'.','values':[false]}]")
    (command.Argument (at_keys (name.Project (codes "/")) []) (change.Set (given.Switch false)))
    × stands_for (codes "[{'type':'arg','operation':'add','function':'target','id':'e','key':'c_args','values':['-DX']}]")
    (command.Argument (at_keys (called callee.Target (codes "e")) (codes "c_args" ∷ [])) (change.Add (given.Text (codes "-DX") ∷ [])))
    × stands_for (codes "[{'type':'arg','operation':'remove','function':'target','id':'e','key':'c_args','values':['-DX',true]}]")
    (command.Argument (at_keys (called callee.Target (codes "e")) (codes "c_args" ∷ [])) (change.Remove (given.Text (codes "-DX") ∷ given.Switch true ∷ [])))
    × stands_for (codes "[{'type':'arg','operation':'replace','function':'target','id':'e','key':'c_args','values':['-DX','-DY']}]")
    (command.Argument (at_keys (called callee.Target (codes "e")) (codes "c_args" ∷ [])) (change.Replace (given.Text (codes "-DX")) (given.Text (codes "-DY"))))
    × stands_for (codes "[{'type':'arg','operation':'add','function':'target','id':'e','key':'c_args','values':['-DX'],'after':true}]")
    (command.Argument (at_keys (called callee.Target (codes "e")) (codes "c_args" ∷ [])) (change.AddAfter (given.Switch true) (given.Text (codes "-DX") ∷ [])))
    × stands_for (codes "[{'type':'arg','operation':'remove','function':'target','id':'e','key':'c_args','values':['-DX'],'after':1}]")
    (command.Argument (at_keys (called callee.Target (codes "e")) (codes "c_args" ∷ [])) (change.Remove (given.Text (codes "-DX") ∷ [])))
    × gives (codes "[{'type':'arg','operation':'add','function':'target','id':'e','key':'c_args','values':['-DX'],'after':1}]") (Err (BadField 0 (codes "after")))
    × gives_known (codes "[{'type':'arg','operation':'remove','function':'target','id':'e','key':'c_args','values':['-DX'],'after':'-DY'}]")
    (Err (UnknownMember 0 (codes "after")))
    × gives (codes "[{'type':'arg','operation':'remove','function':'target','id':'e','key':'c_args'}]") (Err (BadField 0 (codes "values")))
    × gives (codes "[{'type':'arg','operation':'replace','function':'target','id':'e','key':'c_args','values':['-DX']}]") (Err (BadField 0 (codes "values")))
    × gives (codes "[{'type':'arg','operation':'replace','function':'target','id':'e','key':'c_args','values':['a','b','c']}]")
    (Err (BadField 0 (codes "values")))
    × gives (codes "[{'type':'arg','operation':'add','function':'target','id':'e','key':'c_args','values':[]}]") (Err (BadField 0 (codes "values")))
    × gives (codes "[{'type':'arg','operation':'rename','function':'target','id':'e','key':'c_args','values':['-DX']}]") (Err (UnknownOperation 0))
    × gives (codes "[{'type':'arg','operation':'set','id':'e'}]") (Err (BadField 0 (codes "function")))
    × gives (codes "[{'type':'arg','operation':'set','function':'at','id':'meson.build','key':'.'}]") (Err (BadField 0 (codes "id")))
    × gives (codes "[{'type':'arg','operation':'set','function':'target','id':'e','key':1}]") (Err (BadField 0 (codes "key")))
    × gives (codes "[{'type':'arg','operation':'set','function':'target','id':'e','key':'k','in':1}]") (Err (BadField 0 (codes "in")))
    × gives (codes "[{'type':'arg','operation':'set','function':'target','id':'e','key':'k'}]") (Err (BadField 0 (codes "values")))
    × gives (codes "[{'type':'arg','operation':'set','function':'target','id':'e','key':'k','values':[1]}]") (Err (BadField 0 (codes "values")))
    × gives_known (codes "[{'type':'arg','operation':'delete','function':'target','id':'e','key':'k','values':[]}]") (Err (UnknownMember 0 (codes "values")))

-- each in its place: `sorted` may be `false`, goes with additions alone, and is not `true` beside `after`
abbrev pub SortedEntries : Type 0
SortedEntries =
    stands_for (codes "[{'type':'target','target':'e','operation':'src_add','sources':['b.c'],'sorted':true}]")
    (command.SourcesAddSorted (anywhere (codes "e")) (codes "b.c" ∷ []))
    × stands_for (codes "[{'type':'target','target':'e','operation':'src_add','sources':['b.c'],'sorted':false}]")
    (command.SourcesAdd (anywhere (codes "e")) (codes "b.c" ∷ []))
    × stands_for (codes "[{'type':'target','target':'e','operation':'src_rm','sources':['b.c'],'sorted':1}]")
    (command.SourcesRemove (anywhere (codes "e")) (codes "b.c" ∷ []))
    × gives (codes "[{'type':'target','target':'e','operation':'src_add','sources':['b.c'],'sorted':'yes'}]") (Err (BadField 0 (codes "sorted")))
    × gives (codes "[{'type':'target','target':'e','operation':'src_add','in':1,'sorted':1}]") (Err (BadField 0 (codes "in")))
    × stands_for (codes "[{'type':'arg','operation':'add','function':'target','id':'e','key':'c_args','values':['-DX'],'sorted':true}]")
    (command.Argument (at_keys (called callee.Target (codes "e")) (codes "c_args" ∷ [])) (change.AddSorted (given.Text (codes "-DX") ∷ [])))
    × stands_for (codes "[{'type':'arg','operation':'add','function':'target','id':'e','key':'c_args','values':['-DX'],'after':true,'sorted':false}]")
    (command.Argument (at_keys (called callee.Target (codes "e")) (codes "c_args" ∷ [])) (change.AddAfter (given.Switch true) (given.Text (codes "-DX") ∷ [])))
    × stands_for (codes "[{'type':'arg','operation':'remove','function':'target','id':'e','key':'c_args','values':['-DX'],'sorted':1}]")
    (command.Argument (at_keys (called callee.Target (codes "e")) (codes "c_args" ∷ [])) (change.Remove (given.Text (codes "-DX") ∷ [])))
    × gives (codes "[{'type':'arg','operation':'add','function':'target','id':'e','key':'c_args','values':['-DX'],'sorted':null}]")
    (Err (BadField 0 (codes "sorted")))
    × gives (codes "[{'type':'arg','operation':'add','function':'target','id':'e','key':'c_args','values':['-DX'],'after':'-DY','sorted':true}]")
    (Err (BadField 0 (codes "sorted")))
    × gives (codes "[{'type':'arg','operation':'add','function':'target','id':'e','key':'c_args','values':[],'sorted':1}]") (Err (BadField 0 (codes "sorted")))
    × gives (codes "[{'type':'arg','operation':'add','function':'target','id':'e','key':'c_args','values':['-DX'],'after':1,'sorted':1}]")
    (Err (BadField 0 (codes "after")))
    × gives (codes "[{'type':'arg','operation':'add','function':'target','id':'e','key':'c_args','values':[],'sorted':true}]")
    (Err (BadField 0 (codes "values")))
    × gives_known (codes "[{'type':'arg','operation':'set','function':'target','id':'e','key':'c_args','values':['-DX'],'sorted':true}]")
    (Err (UnknownMember 0 (codes "sorted")))
    × gives_known (codes "[{'type':'target','target':'e','operation':'extra_files_add','sources':['x.h'],'sorted':true}]")
    (Err (UnknownMember 0 (codes "sorted")))
    × gives_known (codes "[{'type':'target','target':'e','operation':'src_add','sources':['b.c'],'sorted':false}]")
    (Ok (command.SourcesAdd (anywhere (codes "e")) (codes "b.c" ∷ []) ∷ []))

-- what is reported of a value; the key may be left out, and there are no values
abbrev pub InfoEntries : Type 0
InfoEntries =
    stands_for (codes "[{'type':'arg','operation':'info','function':'target','id':'e','key':'c_args.0'}]")
    (command.ArgumentInfo (at_keys (called callee.Target (codes "e")) (codes "c_args" ∷ codes "0" ∷ [])))
    × stands_for (codes "[{'type':'arg','operation':'info','function':'project','id':'/','values':1}]") (command.ArgumentInfo (at_keys (name.Project (codes "/")) []))
    × gives_known (codes "[{'type':'arg','operation':'info','function':'variable','id':'x','key':['a.b'],'in':'s'}]")
    (Ok (command.ArgumentInfo (record { place = record { name = name.Variable (codes "x"); folder = Some (codes "s") }; keys = codes "a.b" ∷ [] }) ∷ []))
    × gives (codes "[{'type':'arg','operation':'info','function':'target','id':'e','key':1}]") (Err (BadField 0 (codes "key")))
    × gives (codes "[{'type':'arg','operation':'delete','function':'target','id':'e'}]") (Err (BadField 0 (codes "key")))
    × gives_known (codes "[{'type':'arg','operation':'info','function':'target','id':'e','values':[]}]") (Err (UnknownMember 0 (codes "values")))

-- a statement that is searched for in all files
abbrev anywhere_named : PlaceName → Search
anywhere_named n = record { name = n; folder = None }

-- code below a statement, above one, and at the end of a file, which reads no folder; the number of blank lines may be 0, and is at most 100
abbrev pub CodeEntries : Type 0
CodeEntries =
    stands_for (codes "[{'type':'code','operation':'after','function':'target','id':'e','code':'y = 1'}]")
    (command.CodeInsert (place.Below (anywhere_named (called callee.Target (codes "e")))) (codes "y = 1") None)
    × stands_for (codes "[{'type':'code','operation':'before','function':'variable','id':'x','in':'s','code':' y = 1 ','blank':0}]")
    (command.CodeInsert (place.Above (record { name = name.Variable (codes "x"); folder = Some (codes "s") })) (codes "y = 1") (Some 0))
    × stands_for (codes "[{'type':'code','operation':'append','file':'meson.build','in':1,'code':'y = 1','blank':100}]")
    (command.CodeInsert (place.End (codes "meson.build")) (codes "y = 1") (Some 100))
    × gives (codes "[{'type':'code','operation':'set'}]") (Err (UnknownOperation 0))
    × gives (codes "[{'type':'code','operation':'after','function':'target','code':1}]") (Err (BadField 0 (codes "id")))
    × gives (codes "[{'type':'code','operation':'after','function':'at','id':'meson.build','in':1}]") (Err (BadField 0 (codes "id")))
    × gives (codes "[{'type':'code','operation':'before','function':'target','id':'e','in':1,'code':1}]") (Err (BadField 0 (codes "in")))
    × gives (codes "[{'type':'code','operation':'append','function':'target','id':'e','code':'y = 1'}]") (Err (BadField 0 (codes "file")))
    × gives (codes "[{'type':'code','operation':'append','file':'meson.build','blank':-1}]") (Err (BadField 0 (codes "code")))
    × gives (codes "[{'type':'code','operation':'append','file':'meson.build','code':'y ='}]") (Err (BadField 0 (codes "code")))
    × gives (codes "[{'type':'code','operation':'append','file':'meson.build','code':'# y'}]") (Err (BadField 0 (codes "code")))
    × gives (codes "[{'type':'code','operation':'append','file':'meson.build','code':'y','blank':101}]") (Err (BadField 0 (codes "blank")))
    × gives (codes "[{'type':'code','operation':'append','file':'meson.build','code':'y','blank':-1}]") (Err (BadField 0 (codes "blank")))
    × gives (codes "[{'type':'code','operation':'append','file':'meson.build','code':'y','blank':1.5}]") (Err (BadField 0 (codes "blank")))
    × gives (codes "[{'type':'code','operation':'append','file':'meson.build','code':'y','blank':'1'}]") (Err (BadField 0 (codes "blank")))
    × gives_known (codes "[{'type':'code','operation':'append','file':'meson.build','code':'y','in':'s'}]") (Err (UnknownMember 0 (codes "in")))
    × gives_known (codes "[{'type':'code','operation':'after','function':'target','id':'e','code':'y','file':'meson.build'}]") (Err (UnknownMember 0 (codes "file")))
    × gives_known (codes "[{'type':'code','operation':'after','function':'target','id':'e','code':'y','unused':true}]") (Err (UnknownMember 0 (codes "unused")))

-- the removal of a statement, and of what nothing reads after that; code, a file and blank lines are no members of it
abbrev pub RemovalEntries : Type 0
RemovalEntries =
    stands_for (codes "[{'type':'code','operation':'remove','function':'target','id':'e'}]")
    (command.CodeRemove (anywhere_named (called callee.Target (codes "e"))) false)
    × stands_for (codes "[{'type':'code','operation':'remove','function':'variable','id':'x','in':'s','unused':true}]")
    (command.CodeRemove (record { name = name.Variable (codes "x"); folder = Some (codes "s") }) true)
    × gives_known (codes "[{'type':'code','operation':'remove','function':'at','id':'s/meson.build:12','unused':false}]")
    (Ok (command.CodeRemove (anywhere_named (name.Line (codes "s/meson.build") 12)) false ∷ []))
    × stands_for (codes "[{'type':'code','operation':'remove','function':'target','id':'e','code':1,'blank':-1,'file':1}]")
    (command.CodeRemove (anywhere_named (called callee.Target (codes "e"))) false)
    × gives (codes "[{'type':'code','operation':'remove','id':'e'}]") (Err (BadField 0 (codes "function")))
    × gives (codes "[{'type':'code','operation':'remove','function':'at','id':'meson.build','unused':1}]") (Err (BadField 0 (codes "id")))
    × gives (codes "[{'type':'code','operation':'remove','function':'target','id':'e','in':1,'unused':1}]") (Err (BadField 0 (codes "in")))
    × gives (codes "[{'type':'code','operation':'remove','function':'target','id':'e','unused':1}]") (Err (BadField 0 (codes "unused")))
    × gives (codes "[{'type':'code','operation':'remove','function':'target','id':'e','unused':null}]") (Err (BadField 0 (codes "unused")))
    × gives_known (codes "[{'type':'code','operation':'remove','function':'target','id':'e','code':'y'}]") (Err (UnknownMember 0 (codes "code")))
    × gives_known (codes "[{'type':'code','operation':'remove','function':'target','id':'e','blank':1}]") (Err (UnknownMember 0 (codes "blank")))
    × gives_known (codes "[{'type':'code','operation':'remove','function':'target','id':'e','file':'meson.build'}]") (Err (UnknownMember 0 (codes "file")))

-- entry by entry, and each in a fixed order
abbrev pub Faults : Type 0
Faults =
    gives (codes "[") (Err NotJson)
    × gives (codes "{}") (Err NotArray)
    × gives (codes "[]") (Ok [])
    × ((entries : Items) → items_len entries ≡ 4097 → script_of Ignored (Some (array entries)) ≡ Err TooMany)
    × gives (codes "[1]") (Err (NotObject 0))
    × gives (codes "[{}]") (Err (UnknownType 0))
    × gives (codes "[{'type':'x'}]") (Err (UnknownType 0))
    × gives (codes "[{'type':'kwargs'}]") (Err (BadField 0 (codes "operation")))
    × gives (codes "[{'type':'kwargs','operation':'rename'}]") (Err (UnknownOperation 0))
    × gives (codes "[{'type':'kwargs','operation':'remove_regex'}]") (Err (Unsupported 0))
    × gives (codes "[{'type':'kwargs','operation':'set','id':1}]") (Err (BadField 0 (codes "function")))
    × gives (codes "[{'type':'target','operation':'src_add'}]") (Err (BadField 0 (codes "target")))
    × gives (codes "[{'type':'target','operation':'info','target':'e','subdir':null}]") (Err (BadField 0 (codes "subdir")))
    × gives (codes "[{'type':'default_options','operation':'set','options':{'a':[]}}]") (Err (BadField 0 (codes "options")))
    × gives (codes "[{'type':'target','operation':'info','target':'e'},[]]") (Err (NotObject 1))

-- where members that are not known are refused: of each entry last, the first in the order of the bytes of the names
abbrev pub KnownMembers : Type 0
KnownMembers =
    gives_known (codes "[{'type':'target','target':'l','operation':'target_add','sources':['a.c'],'subdir':'s','target_type':'jar'}]")
    (Ok (command.TargetAdd (codes "l") (codes "jar") (codes "s") (codes "a.c" ∷ []) ∷ []))
    × gives_known (codes "[{'type':'kwargs','function':'target','id':'e','operation':'delete','kwargs':{'install':null,'a':1}}]")
    (Ok (command.KwargsDelete role.Target (anywhere (codes "e")) (codes "a" ∷ codes "install" ∷ []) ∷ []))
    × gives_known (codes "[{'type':'target','target':'l','operation':'target_add','in':'s'}]") (Err (UnknownMember 0 (codes "in")))
    × gives_known (codes "[{'type':'default_options','operation':'delete','options':{'cpp_std':0}}]") (Ok (command.OptionsDelete (codes "cpp_std" ∷ []) ∷ []))
    × gives_known (codes "[{'type':'target','target':'l','operation':'target_rm','kind':1}]") (Err (UnknownMember 0 (codes "kind")))
    × gives_known (codes "[{'type':'target','target':'e','operation':'info','subdir':''}]") (Err (UnknownMember 0 (codes "subdir")))
    × gives_known (codes "[{'type':'kwargs','function':'project','id':'/','operation':'info','kwargs':{}}]") (Err (UnknownMember 0 (codes "kwargs")))
    × gives_known (codes "[{'type':'default_options','operation':'delete','z':1,'option':{},'y':2}]") (Err (UnknownMember 0 (codes "option")))
    × gives_known (codes "[{'type':'target','operation':'info','target':'e','subdir':null}]") (Err (BadField 0 (codes "subdir")))
    × gives_known (codes "[{'type':'kwargs','operation':'rename','a':1}]") (Err (UnknownOperation 0))
    × gives_known (codes "[{'type':'target','operation':'info','target':'e','':1},[]]") (Err (UnknownMember 0 []))
    × gives_known (codes "[{'type':'target','operation':'info','target':'e'},[]]") (Err (NotObject 1))

-- a script without such members has the commands that it has where they are ignored
abbrev pub RefusingChangesNothing : Type 0
RefusingChangesNothing = (value : Option Data) (commands : List Command) → script_of Refused value ≡ Ok commands → script_of Ignored value ≡ Ok commands

-- ---- logs

-- `, 'b.c'` inserted at 50
abbrev an_insertion : Splice
an_insertion = record { file = codes "meson.build"; at = 50; was = []; now = codes ", 'b.c'" }

abbrev its_history : History
its_history = record { past = record { splices = an_insertion ∷ []; title = codes "add b" } ∷ []; future = [] }

abbrev an_untitled_change : History
an_untitled_change = record { past = record { splices = []; title = [] } ∷ []; future = [] }

abbrev pub Logs : Type 0
Logs =
    (log_of its_history ≡ Ok (codes "{\"future\":[],\"past\":[{\"splices\":[{\"at\":50,\"file\":\"meson.build\",\"now\":\", 'b.c'\",\"was\":\"\"}],\"title\":\"add b\"}],\"version\":2}\n"))
    × (logged (double_quoted (codes "{'version':2, 'future':[], 'past':[{'title':'','splices':[]}]}")) ≡ Some an_untitled_change)
    × (logged (double_quoted (codes "{'version':1, 'future':[], 'past':[[]]}")) ≡ Some an_untitled_change)
    × (logged (double_quoted (codes "{'version':2, 'future':[], 'past':[[]]}")) ≡ None)
    × (logged (double_quoted (codes "{'version':1, 'future':[], 'past':[{'title':'','splices':[]}]}")) ≡ None)
    × (logged (codes "{}") ≡ None)
    × (logged (double_quoted (codes "{'future':[],'past':[],'version':3}")) ≡ None)
    × (logged (double_quoted (codes "{'future':[],'past':[],'title':'','version':1}")) ≡ None)
    × (logged (double_quoted (codes "{'future':[],'past':[[{'at':-1,'file':'f','now':'','was':''}]],'version':1}")) ≡ None)
    × (logged (double_quoted (codes "{'future':[],'past':[[{'at':'4','file':'f','now':'','was':''}]],'version':1}")) ≡ None)
