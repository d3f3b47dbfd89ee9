-- What the bytes of a file that the words name are.
use Rattle.std.proofs.Common.{◌≡◌, ℕ, List, Bool, true, false, Option, Result, Err, refl, sym, ap, ◌∙◌, cond, inl, inr, ◌⊎◌, subst}
use Rattle.std.specs.Str.{IsUtf8, is_utf8}
use Rattle.std.proofs.lemmas.Str.{IsUtf8-from_is_utf8, is_utf8-from_IsUtf8}
use Rattle.serde_json.specs.Read.{read}
use Rattle.meson_json.specs.Scripts.{script_of}
use Rattle.meson_json.specs.declared.member_check.UnknownMembers.{UnknownMembers}
use Rattle.meson_json.specs.declared.fault.ScriptFault.{ScriptFault}
use Rattle.meson_json.specs.declared.fault.ScriptFault.TheVariants.{NotJson}
use Rattle.meson_command.specs.declared.asked.Flags.{Flags}
use Rattle.meson_steps.specs.declared.command.Command.{Command}
use Rattle.meson_store.specs.Content.{Content}
use Rattle.meson_store.specs.declared.store_fault.StoreFault.{StoreFault}
use Rattle.meson_store.specs.declared.store_fault.StoreFault.TheVariants as store
use Rattle.meson_gathering.specs.Gathered.{IsUnread}
use Rattle.meson_rewrite.specs.declared.advice.Advice.TheVariants.{Nothing}
use Rattle.meson_rewrite.specs.Requests.{HasBytes, IsBad, IsNoFile, IsNoScript, script_in, unread}
use Rattle.meson_rewrite.specs.Stops.{WantsMemory}
use Rattle.meson_rewrite.specs.declared.stop.Stop.{Stop}
use Rattle.meson_rewrite.specs.declared.stop.Stop.TheVariants.{Store}

abbrev Read : Type 0
Read = Result (List Command) ScriptFault

by-test : (b : Bool) (x y : Read) → b ≡ true → cond b x y ≡ x
by-test true x y e = refl
by-test false x y e = absurd (let no : ⊥ = cc in no)

by-test-not : (b : Bool) (x y : Read) → b ≡ false → cond b x y ≡ y
by-test-not false x y e = refl
by-test-not true x y e = absurd (let no : ⊥ = cc in no)

not-text : (b : Bool) (bytes : List ℕ) → is_utf8 bytes ≡ b → (IsUtf8 bytes → ⊥) → b ≡ false
not-text true bytes is other = absurd (other (IsUtf8-from_is_utf8 bytes is))
not-text false bytes is other = refl

pub of-text : (unknown : UnknownMembers) (bytes text : List ℕ) → text ≡ bytes → IsUtf8 bytes → script_in unknown bytes ≡ script_of unknown (read text)
of-text unknown bytes text same is = by-test (is_utf8 bytes) _ _ (is_utf8-from_IsUtf8 bytes is) ∙ ap (λ t. script_of unknown (read t)) (sym same)

pub of-no-text : (unknown : UnknownMembers) (bytes : List ℕ) → (IsUtf8 bytes → ⊥) → script_in unknown bytes ≡ Err NotJson
of-no-text unknown bytes other = by-test-not (is_utf8 bytes) _ _ (not-text (is_utf8 bytes) bytes refl other)

-- a fault of the bytes is one of the file
pub bad-file : (flags : Flags) (held : Option Content) (failed failed' : ℕ) (name bytes : List ℕ) (unknown : UnknownMembers) (why : Stop) → HasBytes held name bytes
    → WantsMemory why ⊎ IsBad flags (script_in unknown bytes) why → WantsMemory why ⊎ IsNoScript flags held failed failed' name unknown why
bad-file flags held failed failed' name bytes unknown why has (inl m) = inl m
bad-file flags held failed failed' name bytes unknown why has (inr bad) = inr (inr (bytes, has, bad))

-- where there is no file, there is no script
pub no-script : (flags : Flags) (held : Option Content) (failed failed' : ℕ) (name : List ℕ) (unknown : UnknownMembers) (why : Stop) → WantsMemory why ⊎ IsNoFile held failed failed' name why
    → WantsMemory why ⊎ IsNoScript flags held failed failed' name unknown why
no-script flags held failed failed' name unknown why (inl m) = inl m
no-script flags held failed failed' name unknown why (inr none) = inr (inl none)

-- a file that is not read
pub unread-file : (held : Option Content) (failed failed' : ℕ) (name : List ℕ) (fault : StoreFault) → IsUnread failed failed' name fault
    → WantsMemory (Store fault Nothing) ⊎ IsNoFile held failed failed' name (Store fault Nothing)
unread-file held failed failed' name (store.ReadFailed n) (e, rose) =
    inr (subst (λ m. IsNoFile held failed failed' name (Store (store.ReadFailed m) Nothing)) (sym e) (unread rose))
unread-file held failed failed' name (store.WriteFailed n still_new) h = absurd h
unread-file held failed failed' name (store.NoFile n) h = absurd h
unread-file held failed failed' name store.OutputFailed h = absurd h
unread-file held failed failed' name store.OutOfMemory h = inl (refl, refl)
