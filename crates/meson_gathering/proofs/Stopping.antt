-- What stops a step stops the steps around it.
use Rattle.std.proofs.Common.{◌≡◌, ◌<◌, ◌≤◌, ℕ, Bool, true, false, List, inl, inr, refl, subst, sym, arith}
use Rattle.std.specs.Prelude.{◌≢◌, nat_lt, None, Result, Ok, Err, IfErr}
use Rattle.std.proofs.lemmas.Bool.Decides.{nat_tests}
use Rattle.meson_splice.specs.declared.file_set.File.{File}
use Rattle.meson_syntax.specs.declared.fault.ParseFault.{ParseFault}
use Rattle.meson_syntax.specs.declared.fault.ParseFault.TheVariants as parse
use Rattle.meson_syntax.specs.Reads.{MayNotRead}
use Rattle.meson_store.specs.Content.{Rose}
use Rattle.meson_gathering.specs.Gathering.{Ending, unread, unparsed, rootless, too_many, with_more}
use Rattle.meson_gathering.specs.Gathered.{IsUnread, StoreStopsAt, StopsAt}
use Rattle.meson_gathering.specs.inside.Gathered.{StopsLooking, IsNotAdded}
use Rattle.meson_gathering.specs.declared.fault.GatherFault.{GatherFault}
use Rattle.meson_gathering.specs.declared.fault.GatherFault.TheVariants.{Parse, TooManyFiles, Store}
use Rattle.meson_store.specs.declared.store_fault.StoreFault.{StoreFault}
use Rattle.meson_store.specs.declared.store_fault.StoreFault.TheVariants as store

-- a failure that was counted was counted since any time before
pub rose_before : (first old new : ℕ) → first ≤ old → old ≤ new → Rose old new → Rose first new
rose_before first old new h k (inl rose) = inl (omega arith)
rose_before first old new h k (inr most) = go (nat_lt first new) refl
  where
    go : (b : Bool) → nat_lt first new ≡ b → Rose first new
    go true e = let l : first < new = grind (arith, nat_tests) in inl l
    go false e = let l : new ≤ first = grind (arith, nat_tests) in inr (omega arith)

module _ (P Q : Ending → Type 0) (carry : (end : Ending) → P end → Q end) (first old new : ℕ) (h : first ≤ old) (k : old ≤ new) where
  store_stops : (fault : StoreFault) → StoreStopsAt old new P fault → StoreStopsAt first new Q fault
  store_stops (store.ReadFailed name) (rose, p) = (rose_before first old new h k rose, carry (unread name) p)
  store_stops (store.WriteFailed name still_new) p = p
  store_stops (store.NoFile name) (e, p) = (e, carry rootless p)
  store_stops store.OutputFailed p = p
  store_stops store.OutOfMemory p = p

  pub stops_within : (stop : GatherFault) → StopsAt old new P stop → StopsAt first new Q stop
  stops_within (Parse name bytes fault) p = carry (unparsed name bytes fault) p
  stops_within TooManyFiles p = carry too_many p
  stops_within (Store fault) p = store_stops fault p

-- a read that failed
pub unread_stops : (P : Ending → Type 0) (old new : ℕ) (name : List ℕ) (fault : StoreFault) → P (unread name) → IsUnread old new name fault → StoreStopsAt old new P fault
unread_stops P old new name (store.ReadFailed n) p (e, rose) = (rose, subst (λ m. P (unread m)) (sym e) p)
unread_stops P old new name (store.WriteFailed n still_new) p h = h
unread_stops P old new name (store.NoFile n) p h = absurd h
unread_stops P old new name store.OutputFailed p h = h
unread_stops P old new name store.OutOfMemory p h = h

-- what is said of one ending of a result is said with less
pub if_err : {T E : Type 0} (P Q : E → Type 0) → ((e : E) → P e → Q e) → (r : Result T E) → IfErr r P → IfErr r Q
if_err P Q carry (Ok x) h = h
if_err P Q carry (Err e) h = carry e h

memory_stops : (P : Ending → Type 0) (old new : ℕ) (fault : StoreFault) → fault ≡ store.OutOfMemory → StoreStopsAt old new P fault
memory_stops P old new fault e = subst (StoreStopsAt old new P) (sym e) tt

-- a file that was not put behind the others
pub unadded_stops : (P : Ending → Type 0) (old new : ℕ) (files : List File) (f : File) → (with_more files f ≡ None → P too_many) → (stop : GatherFault) → IsNotAdded files f stop → StopsAt old new P stop
unadded_stops P old new files f many (Parse name bytes fault) h = absurd h
unadded_stops P old new files f many TooManyFiles h = many h
unadded_stops P old new files f many (Store fault) h = memory_stops P old new fault h

-- a file that was not parsed
pub looking_stops : (P : Ending → Type 0) (old new : ℕ) (name bytes : List ℕ)
    → ((fault : ParseFault) → MayNotRead bytes fault → fault ≢ parse.OutOfMemory → P (unparsed name bytes fault))
    → (stop : GatherFault) → StopsLooking name bytes stop → StopsAt old new P stop
looking_stops P old new name bytes many (Parse n b fault) h =
    subst (λ m. P (unparsed m b fault)) (sym h.0) (subst (λ bs. P (unparsed name bs fault)) (sym h.1) (many fault h.2 h.3))
looking_stops P old new name bytes many TooManyFiles h = absurd h
looking_stops P old new name bytes many (Store fault) h = memory_stops P old new fault h
