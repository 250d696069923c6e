-- The session after an act that fits: it keeps the bounds, and its containers are well formed.
use Rattle.std.proofs.Common.{◌≡◌, ℕ, ◌+◌, Bool, true, List, ◌++◌, arith}
use Rattle.entries.specs.declared.entry.Entry.{Entry}
use Rattle.entries.specs.Requests.{containers_formed}
use Rattle.session.specs.declared.state.Act.{Act}
use Rattle.session.specs.declared.state.Line.{Line}
use Rattle.session.specs.Closing.{closes, closing_count, closed_lines, closings}
use Rattle.session.specs.Fit.{Fit, StopWithin}
use Rattle.session.specs.Performing.{edited, stopped_at, acted}
use Rattle.session.specs.State.{State}
use Rattle.session.proofs.Bounds.{closings_formed, formed_append, sound_closed, volume_closed, length_closed, length_edited, within_more, sound_stopped, volume_stopped}
use Rattle.session.proofs.Fits.{Sane}

module _ (s : State) (a : Act) (t : ℕ) where
  -- from its parts
  pub acted_is :
      (n : ℕ) (ls : List Line) (w : List Entry)
      → n ≡ s.closed + closing_count (closes a.chosen t) (edited a.edit s.lines)
      → ls ≡ stopped_at a.stop (closed_lines (closes a.chosen t) t (edited a.edit s.lines))
      → w ≡ s.waiting ++ closings (closes a.chosen t) a.cause s.marks.period t s.closed (edited a.edit s.lines)
      → ◌≡◌ {A = State} (record { id = s.id; settings = s.settings; marks = a.marks; last = t; closed = n; owed = s.owed; lines = ls; waiting = w })
      (acted s a t)
  acted_is n ls w e f g = cc

  module _ (fit : Fit s t a) where
    -- the stop lies within the lines after the closings
    pub stop_within : StopWithin a.stop (closed_lines (closes a.chosen t) t (edited a.edit s.lines))
    stop_within =
        within_more a.stop s.lines (closed_lines (closes a.chosen t) t (edited a.edit s.lines))
        (omega (
          arith,
          length_edited a.edit s.lines,
          length_closed (closes a.chosen t) t (edited a.edit s.lines),
        )) fit.stop

    pub acted_sane : Sane (acted s a t)
    acted_sane =
        let p : Line → Bool = closes a.chosen t in
        let ls : List Line = edited a.edit s.lines in
        record {
          sound = sound_stopped t a.stop (closed_lines p t ls) stop_within (sound_closed p t ls fit.sound);
          counted = omega (arith, volume_stopped a.stop (closed_lines p t ls) stop_within, volume_closed p t ls, fit.volume);
        }

    pub acted_formed : containers_formed s.waiting ≡ true → containers_formed (acted s a t).waiting ≡ true
    acted_formed h =
        formed_append s.waiting (closings (closes a.chosen t) a.cause s.marks.period t s.closed (edited a.edit s.lines)) h
        (closings_formed (closes a.chosen t) a.cause s.marks.period t s.closed (edited a.edit s.lines) fit.sound)
