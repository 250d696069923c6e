-- What a call comes to, for the session and for the taker that it is lent.
use Rattle.std.specs.Prelude.{◌≡◌, List, [], ◌∷◌, ◌++◌}
use Rattle.entries.specs.declared.entry.Entry.{Entry}
use Rattle.session.specs.Performing.{Outcome}
use Rattle.session.specs.State.{State}

-- the taker as it was where nothing was added to its book, else as one taking of what was added leaves it
abbrev pub Handed : {T : Type 0} → (T → Entry → List Entry → T → Type 0) → (before : T) → (added : List Entry) → (after : T) → Type 0
Handed took before [] after = after ≡ before
Handed took before (h ∷ cs) after = took before h cs after

-- a call that was to come to an outcome: its answer, the session after it, what the taker's book gained, and the taker
pub record Comes {A T : Type 0} (o : Outcome A) (answer : A) (state : State) (book : T → List Entry) (took : T → Entry → List Entry → T → Type 0)
    (before after : T) : Type 0 where
  pub answers : answer ≡ o.answer
  pub becomes : state ≡ o.state
  pub gains : book after ≡ book before ++ o.added
  pub hands : Handed took before o.added after
