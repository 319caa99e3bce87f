-- The commands that a control file says: their stages rise and are among those counted, and their new codes are within signed 32 bits.
-- Assumes nothing.
use mathlib.Core.Path.{◌≡◌, refl, sym, ap, subst}
use mathlib.Core.Bool.{Bool, true, false, cond, ◌&&◌}
use mathlib.Core.List.{List, [], ◌∷◌}
use Rattle.std.specs.Prelude.{Result, Ok, Err}
use Prim.Native.Nat.{ℕ, zero, suc, ◌+◌, ◌≤◌, ◌<◌}
use native.Mathlib.Omega.{arith}
use lib.Dec.{ltb}
use lib.ListN.{length}
use lib.Signed.{le_z}
use Rattle.ground.specs.Limits.{max_control_file, max_stages}
use Rattle.ground.specs.declared.refusals.Refusal.{Refusal}
use Rattle.ground.specs.Refusals.{refusal, control_file_too_long}
use Rattle.ground.specs.Runs.{begins}
use Rattle.ground.proofs.Tests.{and_left, and_right, clash}
use Rattle.ground.specs.Text.{is_lf}
use Rattle.lines.specs.Lines.{is_cr, is_end, TextLine, line, grown, lines_after, lines_from}
use Rattle.commands.specs.Commands.{line_kind}
use Rattle.commands.proofs.SoundLaws.{Bytes, bytes_rest, line-within}
use Rattle.flc.specs.declared.Command.{Command}
use Rattle.flc.specs.declared.LineAct.{LineAct}
use Rattle.flc.specs.declared.LineAct.TheVariants.{Lists, Passes}
use Rattle.flc.specs.Control.{act_of, ControlReading, reads, refuses, with_command, then_lines, stage_after, count_after, commands_on, control_signature, behind_signature, control}
use Rattle.flc.proofs.ActLaws.{Mapped, listed-is, passed_is}
use Rattle.mapping.specs.Mapping.{fits, moved}
use Rattle.mapping.specs.Passing.{AllSound, Rising, SoundCommand, at-end, more, none, rises}

-- Lines of bytes.
data AllBytes : List TextLine → Type 0 where
  no_line : AllBytes []
  a_line : {l : TextLine} {ls : List TextLine} → Bytes l.text → AllBytes ls → AllBytes (l ∷ ls)

one_more : (x : ℕ) (t : List ℕ) → x < 256 → Bytes t → Bytes (x ∷ t)
one_more x t h b zero = h
one_more x t h b (suc i) = b i

no_bytes : Bytes []
no_bytes zero = omega arith
no_bytes (suc i) = omega arith

grown-bytes : (i x : ℕ) (ls : List TextLine) → x < 256 → AllBytes ls → AllBytes (grown i x ls)
grown-bytes i x [] h no_line = a_line (one_more x [] h no_bytes) no_line
grown-bytes i x (l ∷ ls) h (a_line b c) = a_line (one_more x l.text h b) c

lines_bytes_lem : (cr : Bool) (i : ℕ) (s : List ℕ) → Bytes s → AllBytes (lines_after cr i s)
unfolding lines_after
lines_bytes_lem cr i [] b = no_line
lines_bytes_lem cr i (x ∷ s) b = go (cr && is_lf x) (is_end x) (lines_bytes_lem false (suc i) s (bytes_rest x s b)) (lines_bytes_lem (is_cr x) (suc i) s (bytes_rest x s b))
  where
    go : (p q : Bool) → AllBytes (lines_after false (suc i) s) → AllBytes (lines_after (is_cr x) (suc i) s) → AllBytes (cond p (lines_after false (suc i) s) (cond q (line i [] ∷ lines_after (is_cr x) (suc i) s) (grown i x (lines_after false (suc i) s))))
    go true q c d = c
    go false true c d = a_line no_bytes d
    go false false c d = grown-bytes i x (lines_after false (suc i) s) (b 0) c

signature_bytes : (ls : List TextLine) → AllBytes ls → AllBytes (behind_signature ls)
unfolding behind_signature
signature_bytes [] b = b
signature_bytes (l ∷ ls) (a_line b c) = go (begins control_signature l.text)
  where
    go : (t : Bool) → AllBytes (cond t ls (l ∷ ls))
    go true = c
    go false = a_line b c

sound_of : (t : List ℕ) → Bytes t → (stage : ℕ) → stage < max_stages → (n : ℕ) (c : Command) → Mapped (line_kind t) stage n c → SoundCommand c
unfolding fits moved
sound_of t b stage h n c m =
    subst SoundCommand (sym m.command_is)
    (record {
      staged = h;
      within = λ z e. line-within m.first m.last m.new t b (sym m.kind_is) z.0 (and_left (le_z m.first.0 z.0) (le_z z.0 m.last.0) e) (and_right (le_z m.first.0 z.0) (le_z z.0 m.last.0) e);
    })

rising_lower : {stages k : ℕ} (cs : List Command) (j : ℕ) → j ≤ k → Rising stages k cs → Rising stages j cs
rising_lower [] j h (at-end l) = at-end {k = j} (omega arith)
rising_lower (c ∷ cs) j h (rises l r) = rises {k = j} {c = c} (omega arith) r

-- What the lines say, both at once.
record Good (stage : ℕ) (cs : List Command) (stages : ℕ) : Type 0 where
  pub sound : AllSound cs
  pub rising : Rising stages stage cs

add_command : (stage : ℕ) (c : Command) → SoundCommand c → c.stage ≡ stage → (rest : ControlReading) → ((ds : List Command) (k : ℕ) → reads ds k ≡ rest → Good stage ds k) → (cs : List Command) (k : ℕ) → reads cs k ≡ with_command c rest → Good stage cs k
add_command stage c s e (reads ds j) f cs k p =
    let p1 : cs ≡ c ∷ ds = cc in
    let p2 : j ≡ k = cc in
    let g = f ds k (ap (λ (x : ℕ). reads ds x) (sym p2)) in
    subst (λ (x : List Command). Good stage x k) (sym p1)
    (record { sound = more s g.sound; rising = rises (omega arith) (subst (λ (x : ℕ). Rising k x ds) (sym e) g.rising) })
add_command stage c s e (refuses r) f cs k p = clash (cc)

lines_good : (stage n : ℕ) (ls : List TextLine) → stage < max_stages → AllBytes ls → (cs : List Command) (k : ℕ) → reads cs k ≡ commands_on stage n ls → Good stage cs k
unfolding commands_on
lines_good stage n [] h b cs k p =
    let e : cs ≡ [] = cc in
    let f : k ≡ stage + 1 = cc in
    subst (λ (x : List Command). Good stage x k) (sym e) (record { sound = none; rising = at-end (omega arith) })
lines_good stage n (l ∷ ls) h (a_line b c) cs k p = go (act_of (line_kind l.text) stage n l.start) refl p (λ s m q. lines_good s m ls q c)
  where
    go : (a : Result LineAct Refusal) → act_of (line_kind l.text) stage n l.start ≡ a → reads cs k ≡ then_lines a (commands_on (stage_after a stage) (count_after a n) ls) → ((s m : ℕ) → s < max_stages → (ds : List Command) (j : ℕ) → reads ds j ≡ commands_on s m ls → Good s ds j) → Good stage cs k
    go (Ok (Lists d)) e q old =
        let m = listed-is stage n l.start (line_kind l.text) d (sym e) in
        add_command stage d (sound_of l.text b stage h n d m) (ap (λ (x : Command). x.stage) m.command_is) (commands_on stage (n + 1) ls) (old stage (n + 1) h) cs k q
    go (Ok (Passes j)) e q old =
        let m = passed_is stage n l.start (line_kind l.text) j (sym e) in
        let g = old j n (m.1 h) cs k q in
        record { sound = g.sound; rising = rising_lower cs stage m.0 g.rising }
    go (Err r) e q old = clash (cc)

-- Of a control file.
module _ (s : List ℕ) (b : Bytes s) (cs : List Command) (k : ℕ) (p : reads cs k ≡ control s) where
  good : Good 0 cs k
  unfolding control lines_from
  good = go (ltb max_control_file (length s)) p
    where
      go : (t : Bool) → reads cs k ≡ cond t (refuses (refusal control_file_too_long 0)) (commands_on 0 0 (behind_signature (lines_from s 0))) → Good 0 cs k
      go true q = clash (cc)
      go false q = lines_good 0 0 (behind_signature (lines_from s 0)) (omega arith) (signature_bytes (lines_from s 0) (lines_bytes_lem false 0 s b)) cs k q

  pub control-sound : AllSound cs
  control-sound = good.sound

  pub control-rising : Rising k 0 cs
  control-rising = good.rising
