-- After a refusal every area that a call was lent for writing is filled with zeros.
-- Assumes nothing.
use mathlib.Core.Path.{◌≡◌, refl, ap, ◌∙◌}
use mathlib.Core.Bool.{Bool, true, cond, false≢true}
use mathlib.Core.List.{List, [], map}
use Prim.Native.Nat.{ℕ, ◌-◌}
use native.Mathlib.Omega.{arith}
use lib.IntN.{pos}
use lib.ListN.{length, replicate}
use Rattle.ground.specs.Area.{zeros, padded}
use Rattle.ground.specs.declared.refusals.Refusal.{Refusal}
use Rattle.ground.proofs.Tests.{clash}
use Rattle.subchars.specs.declared.Mode.{Mode}
use Rattle.subchars.specs.declared.VerticalLayout.{VerticalLayout}
use Rattle.blocks.specs.Block.{exact_block, left_of, right_of, rows_of}
use Rattle.overlap.specs.Join.{besides}
use Rattle.join.specs.JoinCall.{join_told, join_area}
use Rattle.stack.specs.StackCall.{stack_of, stack_rows, stack_told, stack_area}
use Rattle.std.specs.Prelude.{Result, Ok, Err}
use Rattle.showing.specs.Output.{shown, output_of, put_only, output_bytes}
use Rattle.font.specs.Font.{FontReading, refuses}
use Rattle.entries.specs.Filling.{font_reading, zero_entry, index_of}
use Rattle.flc.specs.Control as flc
use Rattle.flc.specs.Lists.{CommandLists, command_lists, lists_of}
use Rattle.controlcalls.specs.ControlCall.{control_reading}
use Rattle.drawing.specs.declared.DrawAnswer.{DrawAnswer}
use Rattle.drawing.specs.declared.DrawAnswer.TheVariants as drawn
use Rattle.drawing.specs.Drawing.{Lined, lined, unlined, draw_lined, with_counts, lined_answer, bytes_of}
use Rattle.twolines.specs.TwoLines.{TwoLines, lines_told, lines_bytes, lines_output}
use Rattle.wrapping.specs.declared.WrapAnswer.TheVariants as wrap
use Rattle.breaks.specs.Breaking.{Span}
use Rattle.wrapping.specs.Wrapping.{Wrap, wrapped, unwrapped, wrap_in, wrap_answer, wrap_spans, wrap_bytes, wrap_firsts, wrap_ends, wrap_output}
use Rattle.wattleslate.specs.DrawCall.{draw_tells, draw_told, draw_output}

-- a number less 0
less_none : (n : ℕ) → n - 0 ≡ n
less_none n = omega arith

pub index_wiped : (room : ℕ) (s : List ℕ) (r : Refusal) → font_reading room s ≡ refuses r → index_of (font_reading room s) room ≡ replicate room zero_entry
unfolding index_of
index_wiped room s r e = ap (λ (m : FontReading). index_of m room) e ∙ ap (λ (n : ℕ). replicate n zero_entry) (less_none room)

pub lists_wiped : (lent : CommandLists) (s : List ℕ) (r : Refusal) → control_reading lent s ≡ flc.refuses r →
    lists_of (control_reading lent s) lent ≡ command_lists (zeros (length lent.stages)) (replicate (length lent.firsts) (pos 0)) (replicate (length lent.lasts) (pos 0)) (replicate (length lent.news) (pos 0))
lists_wiped lent s r e =
    ap (λ (x : flc.ControlReading). lists_of x lent) e ∙
    rw (less_none (length lent.stages), less_none (length lent.firsts), less_none (length lent.lasts), less_none (length lent.news)) refl

pub join_wiped : (y : Mode) (h n : ℕ) (line : List ℕ) (m : ℕ) (character : List ℕ) (room : ℕ) → (join_told y h n line m character room).refused ≡ true → join_area y h n line m character room ≡ zeros room
unfolding join_area
join_wiped y h n line m character room e =
    let f = besides y h (left_of y.direction (exact_block n line) (exact_block m character)) (right_of y.direction (exact_block n line) (exact_block m character)) in
    ap (λ (b : Bool). padded (cond b [] (rows_of f.cells h f.width)) room) e ∙ ap zeros (less_none room)

pub stack_wiped : (layout : VerticalLayout) (hardblank n upperWidth : ℕ) (upper : List ℕ) (m lowerWidth : ℕ) (lower : List ℕ) (room : ℕ) →
    (stack_told layout hardblank n upperWidth upper m lowerWidth lower room).refused ≡ true → stack_area layout hardblank n upperWidth upper m lowerWidth lower room ≡ zeros room
unfolding stack_area
stack_wiped layout hardblank n upperWidth upper m lowerWidth lower room e =
    ap (λ (b : Bool). padded (cond b [] (stack_rows (stack_of layout hardblank n upperWidth upper m lowerWidth lower))) room) e ∙ ap zeros (less_none room)

-- a drawing from any source
lined-none : (l : Lined) (room : ℕ) → (draw_tells (lined_answer l room)).refused ≡ true → bytes_of l room ≡ []
unfolding lined_answer bytes_of output_bytes
lined-none (lined y h l n) room q = put_none (output_of h l room) q
  where
    put_none : (a : Result ℕ Refusal) → (draw_tells (with_counts n a)).refused ≡ true → put_only a (shown y.hardblank.0 h l) ≡ []
    put_none (Ok w) q = absurd (false≢true q)
    put_none (Err r) q = refl
lined-none (unlined r) room q = refl

pub lined_wiped : (l : Lined) (room : ℕ) (r : Refusal) → lined_answer l room ≡ drawn.Refused r → padded (bytes_of l room) room ≡ zeros room
lined_wiped l room r e = ap (λ (b : List ℕ). padded b room) (lined-none l room (ap (λ (a : DrawAnswer). (draw_tells a).refused) e)) ∙ ap zeros (less_none room)

pub draw_wiped : (size : ℕ) (s control text : List ℕ) (room : ℕ) → (draw_told size s control text room).refused ≡ true → draw_output size s control text room ≡ zeros room
unfolding draw_told draw_output
draw_wiped size s control text room e = ap (λ (b : List ℕ). padded b room) (lined-none (draw_lined size s control text) room e) ∙ ap zeros (less_none room)

pub lines_wiped : (t : TwoLines) (room : ℕ) → (lines_told t room).refused ≡ true → lines_output t room ≡ zeros room
unfolding lines_output
lines_wiped t room e = ap (λ (b : Bool). padded (cond b [] (lines_bytes t)) room) e ∙ ap zeros (less_none room)

pub wrap_wiped : (w : Wrap) (firstRoom endRoom room : ℕ) (r : Refusal) → wrap_answer (wrap_in room w) ≡ wrap.Refused r →
    (wrap_firsts w room firstRoom ≡ zeros firstRoom) × (wrap_ends w room endRoom ≡ zeros endRoom) × (wrap_output w room ≡ zeros room)
wrap_wiped w firstRoom endRoom room r e = go (wrap_in room w) e
  where
    go : (v : Wrap) → wrap_answer v ≡ wrap.Refused r →
        (padded (map (λ (x : Span). x.first) (wrap_spans v)) firstRoom ≡ zeros firstRoom) × (padded (map (λ (x : Span). x.behind) (wrap_spans v)) endRoom ≡ zeros endRoom) × (padded (wrap_bytes v) room ≡ zeros room)
    go (unwrapped q) e = (ap zeros (less_none firstRoom), ap zeros (less_none endRoom), ap zeros (less_none room))
    go (wrapped spans bytes counts) e = clash (cc)
