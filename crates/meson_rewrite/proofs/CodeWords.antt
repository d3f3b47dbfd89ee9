-- The code of a refusal is the word of its line after the place.
use Rattle.std.proofs.Common.{◌≡◌, ℕ, List, [], ◌++◌, Option, Some, codes, decimal, inl, inr, refl, sym, ap, ◌∙◌, append_assoc, append-nil, ◌⊎◌}
use Rattle.meson_lex.specs.declared.fault.LexFault.{LexFault}
use Rattle.meson_lex.specs.declared.fault.LexFault.TheVariants as lex
use Rattle.meson_syntax.specs.declared.fault.ParseFault.{ParseFault}
use Rattle.meson_syntax.specs.declared.fault.ParseFault.TheVariants as parse
use Rattle.meson_splice.specs.declared.fault.SpliceFault.{SpliceFault}
use Rattle.meson_splice.specs.declared.fault.SpliceFault.TheVariants as splice
use Rattle.meson_calls.specs.declared.refusal.Refusal.{Refusal}
use Rattle.meson_calls.specs.declared.refusal.Refusal.TheVariants as refusal
use Rattle.meson_json.specs.declared.fault.ScriptFault.{ScriptFault}
use Rattle.meson_json.specs.declared.fault.ScriptFault.TheVariants as script
use Rattle.meson_command.specs.declared.fault.UsageFault.{UsageFault}
use Rattle.meson_command.specs.declared.fault.UsageFault.TheVariants as usage
use Rattle.meson_store.specs.declared.store_fault.StoreFault.{StoreFault}
use Rattle.meson_store.specs.declared.store_fault.StoreFault.TheVariants as store
use Rattle.meson_rewrite.specs.Codes.{memory_code, stop_code}
use Rattle.meson_rewrite.specs.Lines.{stop_text}
use Rattle.meson_rewrite.specs.RefusalLaws.{CodesAreWords, HasCode, numbered_place}
use Rattle.meson_rewrite.specs.declared.advice.Advice.{Advice}
use Rattle.meson_rewrite.specs.declared.logged_runs.LoggedRun.{LoggedRun}
use Rattle.meson_rewrite.specs.declared.stop.FileText.{FileText}
use Rattle.meson_rewrite.specs.declared.stop.Stop.{Stop}
use Rattle.meson_rewrite.specs.declared.stop.Stop.TheVariants.{Usage, Script, Parse, TooManyFiles, BadFileName, Refused, Splice, OtherFiles, BadTexts, Store}

abbrev Known : Stop → Type 0
Known stop = ((stop_code stop ≡ memory_code) × (stop_text stop ≡ codes "out of memory")) ⊎ HasCode stop

-- of a script
in_entry : (n : ℕ) (meaning : List ℕ) → codes "entry " ++ (decimal n ++ (codes ": " ++ meaning)) ≡ numbered_place (codes "entry ") (Some n) ++ meaning
in_entry n meaning = ap (λ (l : List ℕ). codes "entry " ++ l) (sym (append_assoc (decimal n) (codes ": ") meaning))

of_script : (fault : ScriptFault) (advice : Advice) → Known (Script fault advice)
of_script script.NotJson advice = inr (record { meaning = codes "not json"; words = refl; one_word = refl })
of_script script.NotArray advice = inr (record { meaning = codes "not an array"; words = refl; one_word = refl })
of_script script.TooMany advice = inr (record { meaning = codes "too many"; words = refl; one_word = refl })
of_script (script.NotObject n) advice = inr (record { meaning = codes "not an object"; words = in_entry n (codes "J4 not an object"); one_word = refl })
of_script (script.UnknownType n) advice = inr (record { meaning = codes "unknown type"; words = in_entry n (codes "J5 unknown type"); one_word = refl })
of_script (script.BadField n name) advice = inr (record { meaning = codes "bad field " ++ name; words = in_entry n (codes "J6 bad field " ++ name); one_word = refl })
of_script (script.UnknownOperation n) advice = inr (record { meaning = codes "unknown operation"; words = in_entry n (codes "J7 unknown operation"); one_word = refl })
of_script (script.Unsupported n) advice = inr (record { meaning = codes "unsupported"; words = in_entry n (codes "J8 unsupported"); one_word = refl })
of_script (script.UnknownMember n name) advice = inr (record { meaning = codes "unknown member " ++ name; words = in_entry n (codes "J12 unknown member " ++ name); one_word = refl })
of_script script.BadLog advice = inr (record { meaning = codes "bad log"; words = refl; one_word = refl })
of_script script.OutOfMemory advice = inl (refl, refl)

of_usage : (fault : UsageFault) (advice : Advice) → Known (Usage fault advice)
of_usage usage.Usage advice = inr (record { meaning = codes "usage"; words = refl; one_word = refl })
of_usage usage.OddWords advice = inr (record { meaning = codes "odd words"; words = refl; one_word = refl })
of_usage usage.RepeatedKey advice = inr (record { meaning = codes "repeated key"; words = refl; one_word = refl })
of_usage usage.Unsupported advice = inr (record { meaning = codes "unsupported"; words = refl; one_word = refl })
of_usage usage.BadTitle advice = inr (record { meaning = codes "bad title"; words = refl; one_word = refl })
of_usage usage.NotCode advice = inr (record { meaning = codes "not code"; words = refl; one_word = refl })
of_usage usage.OutOfMemory advice = inl (refl, refl)

-- of a file
in_file : (name meaning : List ℕ) → name ++ (codes ": " ++ meaning) ≡ (name ++ codes ": ") ++ meaning
in_file name meaning = sym (append_assoc name (codes ": ") meaning)

of_lex : (name : List ℕ) (text : FileText) (fault : LexFault) (advice : Advice) → Known (Parse name text (parse.Lex fault) advice)
of_lex name text (lex.StrayByte at) advice = inr (record { meaning = codes "stray byte at " ++ decimal at; words = in_file name _; one_word = refl })
of_lex name text (lex.OpenString at) advice = inr (record { meaning = codes "open string at " ++ decimal at; words = in_file name _; one_word = refl })
of_lex name text (lex.BadNumber at) advice = inr (record { meaning = codes "bad number at " ++ decimal at; words = in_file name _; one_word = refl })
of_lex name text (lex.BareCarriageReturn at) advice = inr (record { meaning = codes "bare carriage return at " ++ decimal at; words = in_file name _; one_word = refl })

of_parse : (name : List ℕ) (text : FileText) (fault : ParseFault) (advice : Advice) → Known (Parse name text fault advice)
of_parse name text parse.TooLarge advice = inr (record { meaning = codes "too large"; words = in_file name _; one_word = refl })
of_parse name text parse.NotUtf8 advice = inr (record { meaning = codes "not utf-8"; words = in_file name _; one_word = refl })
of_parse name text parse.ByteOrderMark advice = inr (record { meaning = codes "byte order mark"; words = in_file name _; one_word = refl })
of_parse name text (parse.Lex fault) advice = of_lex name text fault advice
of_parse name text (parse.Unexpected at) advice = inr (record { meaning = codes "unexpected at " ++ decimal at; words = in_file name _; one_word = refl })
of_parse name text (parse.TooDeep at) advice = inr (record { meaning = codes "too deep at " ++ decimal at; words = in_file name _; one_word = refl })
of_parse name text parse.OutOfMemory advice = inl (refl, refl)

-- of a command
in_command : (n : ℕ) (meaning : List ℕ) → codes "command " ++ (decimal n ++ (codes ": " ++ meaning)) ≡ (numbered_place (codes "command ") (Some n) ++ []) ++ meaning
in_command n meaning = ap (λ (l : List ℕ). codes "command " ++ l) (sym (append_assoc (decimal n) (codes ": ") meaning)) ∙ ap (λ (l : List ℕ). l ++ meaning) (sym (append-nil (numbered_place (codes "command ") (Some n))))

bare : (n : ℕ) (meaning : List ℕ) → codes "command " ++ (decimal n ++ (codes ": " ++ (meaning ++ []))) ≡ (numbered_place (codes "command ") (Some n) ++ []) ++ meaning
bare n meaning = ap (λ (l : List ℕ). codes "command " ++ (decimal n ++ (codes ": " ++ l))) (append-nil meaning) ∙ in_command n meaning

of_refusal : (n : ℕ) (why : Refusal) (subject : Option (List ℕ)) (advice : Advice) → Known (Refused (record { index = n; refusal = why }) subject advice)
of_refusal n refusal.NoProject subject advice = inr (record { meaning = codes "no project"; words = bare n _; one_word = refl })
of_refusal n refusal.NotFound subject advice = inr (record { meaning = codes "not found"; words = bare n _; one_word = refl })
of_refusal n refusal.Ambiguous subject advice = inr (record { meaning = codes "ambiguous"; words = bare n _; one_word = refl })
of_refusal n (refusal.UnknownKey name) subject advice = inr (record { meaning = codes "unknown key"; words = bare n _; one_word = refl })
of_refusal n (refusal.WrongKind name) subject advice = inr (record { meaning = codes "wrong kind"; words = bare n _; one_word = refl })
of_refusal n refusal.BadName subject advice = inr (record { meaning = codes "bad name"; words = bare n _; one_word = refl })
of_refusal n refusal.HiddenKeywords subject advice = inr (record { meaning = codes "hidden keywords"; words = bare n _; one_word = refl })
of_refusal n (refusal.DuplicateKeyword name) subject advice = inr (record { meaning = codes "duplicate keyword: " ++ name; words = in_command n _; one_word = refl })
of_refusal n (refusal.NotLiteral name) subject advice = inr (record { meaning = codes "not literal: " ++ name; words = in_command n _; one_word = refl })
of_refusal n (refusal.Shared name) subject advice = inr (record { meaning = codes "shared: " ++ name; words = in_command n _; one_word = refl })
of_refusal n (refusal.OtherKind key) subject advice = inr (record { meaning = codes "other kind: " ++ key; words = in_command n _; one_word = refl })
of_refusal n refusal.ThereAlready subject advice = inr (record { meaning = codes "there already"; words = bare n _; one_word = refl })
of_refusal n (refusal.NoSuchValue key) subject advice = inr (record { meaning = codes "no such value: " ++ key; words = in_command n _; one_word = refl })
of_refusal n refusal.SourceNotFound subject advice = inr (record { meaning = codes "source not found"; words = bare n _; one_word = refl })
of_refusal n refusal.Unresolved subject advice = inr (record { meaning = codes "unresolved"; words = bare n _; one_word = refl })
of_refusal n refusal.NotRemovable subject advice = inr (record { meaning = codes "not removable"; words = bare n _; one_word = refl })
of_refusal n refusal.NameTaken subject advice = inr (record { meaning = codes "name taken"; words = bare n _; one_word = refl })
of_refusal n refusal.NoFile subject advice = inr (record { meaning = codes "no file"; words = bare n _; one_word = refl })
of_refusal n refusal.NotStatement subject advice = inr (record { meaning = codes "not a statement"; words = bare n _; one_word = refl })
of_refusal n (refusal.InUse name) subject advice = inr (record { meaning = codes "in use: " ++ name; words = in_command n _; one_word = refl })
of_refusal n refusal.TooDeep subject advice = inr (record { meaning = codes "too deep"; words = bare n _; one_word = refl })
of_refusal n refusal.TooLarge subject advice = inr (record { meaning = codes "too large"; words = bare n _; one_word = refl })
of_refusal n refusal.OutOfMemory subject advice = inl (refl, refl)

of_splice : (fault : SpliceFault) (run : Option LoggedRun) (advice : Advice) → Known (Splice fault run advice)
of_splice (splice.NoFile file) run advice = inr (record { meaning = codes "no file " ++ file; words = refl; one_word = refl })
of_splice (splice.OutOfRange file at) run advice = inr (record { meaning = codes "out of range in " ++ (file ++ (codes " at " ++ decimal at)); words = refl; one_word = refl })
of_splice (splice.Stale file at) run advice = inr (record { meaning = codes "stale " ++ (file ++ (codes " at " ++ decimal at)); words = refl; one_word = refl })
of_splice splice.NothingToUndo run advice = inr (record { meaning = codes "nothing to undo"; words = refl; one_word = refl })
of_splice splice.NothingToRedo run advice = inr (record { meaning = codes "nothing to redo"; words = refl; one_word = refl })
of_splice splice.OutOfMemory run advice = inl (refl, refl)

of_store : (fault : StoreFault) (advice : Advice) → Known (Store fault advice)
of_store (store.ReadFailed name) advice = inr (record { meaning = codes "cannot read " ++ name; words = refl; one_word = refl })
of_store (store.WriteFailed name still_new) advice = inr (record { meaning = codes "cannot write " ++ name; words = refl; one_word = refl })
of_store (store.NoFile name) advice = inr (record { meaning = codes "no file " ++ name; words = refl; one_word = refl })
of_store store.OutputFailed advice = inr (record { meaning = codes "output failed"; words = refl; one_word = refl })
of_store store.OutOfMemory advice = inl (refl, refl)

pub codes_are_words : CodesAreWords
codes_are_words (Usage fault advice) = of_usage fault advice
codes_are_words (Script fault advice) = of_script fault advice
codes_are_words (Parse name text fault advice) = of_parse name text fault advice
codes_are_words (TooManyFiles advice) = inr (record { meaning = codes "too many files"; words = refl; one_word = refl })
codes_are_words (BadFileName place) = inr (record { meaning = codes "bad file name " ++ decimal place; words = refl; one_word = refl })
codes_are_words (Refused fault subject advice) = of_refusal fault.index fault.refusal subject advice
codes_are_words (Splice fault run advice) = of_splice fault run advice
codes_are_words (OtherFiles name advice) = inr (record { meaning = codes "files are not as " ++ (name ++ codes " has them"); words = refl; one_word = refl })
codes_are_words (BadTexts advice) = inr (record { meaning = codes "bad texts"; words = refl; one_word = refl })
codes_are_words (Store fault advice) = of_store fault advice
