-- One call keeps the world as the machine has it.
use Rattle.std.proofs.Common.{◌≡◌, ℕ, ◌^◌, ◌<◌, Bool, false, List, [], length, Some, None, Option, sym, refl, ap, ◌∙◌, subst, inl, inr, arith}
use lib.ListN.{length-replicate}
use Rattle.kinds.specs.declared.record.Record.{Record}
use Rattle.maps.specs.Commands.{answers_to, map_after_sheet}
use Rattle.maps.specs.Maps.{Contents, contents, Lawful, laid}
use Rattle.maps.specs.declared.Command.{Command}
use Rattle.model.specs.Claims.{OpenStands, Stands, ImageOf}
use Rattle.model.specs.Faults.{Fault}
use Rattle.model.specs.Machines.{Machine, machine, Setting, or_refused, begin_reply, reply_of, unless_refused, next}
use Rattle.model.specs.Refusals.{start_refusal, begin_refusal, enter_refusal, list_refusal, seal_refusal, write_refusal}
use Rattle.model.specs.Setups.{Place, Setup, SetupLaws, Shows, Found}
use Rattle.model.specs.Steps.{Left, Leaves, batch_of, empty, Refuses, Unless, started, begun, not_begun, Reads, LaidFor, Over, entered, listing, listed, sealed, Flushed, Writes, StepAt, Step}
use Rattle.model.specs.Worlds.{Batch, Phase, World, Call, Outcome, Event}
use Rattle.model.proofs.Layouts.{laid_length, laid_empty, laid_for_once}
use Rattle.model.proofs.Refusals.{moved, start_taken, begin_taken, write_taken, own_kinds}
use Rattle.model.proofs.Sheets.{lawful_sheet}

-- `Stands`, with the parts of machine and world apart
pub record Sim {K Row V : Type 0} (x : Setup K Row V) (s : Setting) (v o : Option (Contents K V)) (count : ℕ) (protected : Bool) (shown : List Place)
    (phase : Phase) (cells : List (Option (Record Row V))) : Type 0 where
  pub blocks : count ≡ s.count
  pub lock : protected ≡ s.protected
  pub room : length cells ≡ s.room
  pub saved : Found x s.count shown v
  pub found : v ≡ None → shown ≡ s.found
  pub lies : OpenStands x o phase cells

abbrev pub SimW : {K Row V : Type 0} → Setup K Row V → Setting → Machine K V → World Row V → Type 0
SimW x s m w = Sim x s m.saved m.opened w.store.count w.store.protected w.store.shown w.phase w.cells

pub stands : {K Row V : Type 0} {x : Setup K Row V} {s : Setting} {m : Machine K V} {w : World Row V} → SimW x s m w → Stands x s m w
stands i = record { count = i.blocks; protected = i.lock; room = i.room; saved = i.saved; found = i.found; opened = i.lies }

pub unstands : {K Row V : Type 0} {x : Setup K Row V} {s : Setting} {m : Machine K V} {w : World Row V} → Stands x s m w → SimW x s m w
unstands i = record { blocks = i.count; lock = i.protected; room = i.room; saved = i.saved; found = i.found; lies = i.opened }

-- what a call has to show: its outcome is the reply, what is kept, and that world and machine still go together
pub record Follows {K Row V : Type 0} (x : Setup K Row V) (s : Setting) (v o : Option (Contents K V)) (c : Call Row V) (e : Event Row V) : Type 0 where
  pub reply : Some e.outcome ≡ reply_of x s v o c e.lent
  pub kept : c ≡ Call.seal → e.outcome ≡ Outcome.accepted → ImageOf x s.count e.after.store.kept (next x s (machine v o) c e.lent).saved
  pub sim : SimW x s (next x s (machine v o) c e.lent) e.after

module _ {K Row V : Type 0} (x : Setup K Row V) (l : SetupLaws x) (s : Setting) (w : World Row V) (e : Event Row V) where
  -- what is so of what a call leaves is so of the world after it
  landed : {m : Machine K V} {o : Left Row V} → Leaves w e o
      → Sim x s m.saved m.opened w.store.count w.store.protected o.shown o.phase o.cells → SimW x s m e.after
  landed h i = rw (h.count, h.protected, h.shown, h.phase, h.cells) i

  start_case : (r : Option Fault) (v : Option (Contents K V)) (t : ℕ) → start_refusal s.count s.room ≡ r → t < 2 ^ 32 → SimW x s (machine v None) w
      → Unless r (Refuses w e) (Leaves w e (started x w e.lent t))
      → (e.outcome ≡ or_refused r Outcome.accepted)
      × SimW x s (unless_refused (or_refused {Row = Row} {V = V} r Outcome.accepted) (machine v None) (machine v (Some (contents t [])))) e.after
  start_case (Some f) v t q small i h = (h.outcome, landed h i)
  start_case None v t q small i h = (
    h.outcome,
    landed h (record {
      blocks = i.blocks;
      lock = i.lock;
      room = length-replicate (length w.cells) None ∙ i.room;
      saved = i.saved;
      found = i.found;
      lies = (
        record { seed = small; ascending = tt; few = omega arith },
        refl,
        ap empty (i.room ∙ (start_taken s.count s.room q).1) ∙ sym (laid_empty x.kinds l.kinds.key t),
      );
    }),
  )

  begin_good : (v : Option (Contents K V)) (h : Contents K V) → s.room ≡ 1024 → SimW x s (machine v None) w
      → Shows x w.store.count w.store.shown h → Leaves w e (begun x w e.lent h)
      → (e.outcome ≡ begin_reply x s v) × SimW x s (unless_refused (begin_reply x s v) (machine v None) (machine v v)) e.after
  begin_good None h q i sh le = absurd (i.saved h (rw i.blocks at sh))
  begin_good (Some g) h q i sh le =
      let sh' : Shows x s.count w.store.shown h = rw i.blocks at sh in
      let same : h ≡ g = l.written.apart s.count h g sh.lawful i.saved.lawful sh'.fits i.saved.fits (sym sh'.image ∙ i.saved.image) in (
        le.outcome,
        landed le (record {
          blocks = i.blocks;
          lock = i.lock;
          room = laid_length x.kinds l.kinds.key h sh.lawful ∙ sym q;
          saved = i.saved;
          found = i.found;
          lies = (i.saved.lawful, ap (batch_of x.kinds) same, ap (laid x.kinds) same);
        }),
      )

  begin_bad : (v : Option (Contents K V)) (f : Fault) → SimW x s (machine v None) w
      → x.codec.wrong w.store.shown ≡ Some f → Leaves w e (not_begun w e.lent f)
      → (e.outcome ≡ begin_reply x s v) × SimW x s (unless_refused (begin_reply x s v) (machine v None) (machine v v)) e.after
  begin_bad None f i z le =
      let y : x.codec.wrong s.found ≡ Some f = rw (← i.found refl) z in
      rw y (
        le.outcome,
        landed le (record {
          blocks = i.blocks;
          lock = i.lock;
          room = length-replicate (length w.cells) None ∙ i.room;
          saved = i.saved;
          found = i.found;
          lies = tt;
        }),
      )
  begin_bad (Some g) f i z le =
      let y = l.written.sound s.count w.store.shown g i.saved in
      let c : ◌≡◌ {A = ℕ} 0 1 = cc in absurd (omega arith)

  begin_case : (r : Option Fault) (v : Option (Contents K V)) → begin_refusal s.count s.room (length e.lent.work) ≡ r → SimW x s (machine v None) w
      → Unless r (Refuses w e) (Reads x w e)
      → (e.outcome ≡ or_refused r (begin_reply x s v)) × SimW x s (unless_refused (or_refused r (begin_reply x s v)) (machine v None) (machine v v)) e.after
  begin_case (Some f) v q i h = (h.outcome, landed h i)
  begin_case None v q i (inl (h, sh, le)) = begin_good v h (begin_taken s.count s.room (length e.lent.work) q).1 i sh le
  begin_case None v q i (inr (f, z, le)) = begin_bad v f i z le

  module _ (v : Option (Contents K V)) (g : Contents K V) (i : SimW x s (machine v (Some g)) w) (lawful : Lawful x.kinds g) (cells : w.cells ≡ laid x.kinds g) where
    room_is : s.room ≡ 1024
    room_is = sym i.room ∙ ap length cells ∙ laid_length x.kinds l.kinds.key g lawful

    own : LaidFor x.kinds (batch_of x.kinds g) g.records w.cells
    own = record { laid = record { lawful = lawful; is = cells }; count = refl; room = refl }

    -- the cells are the layout of the machine's map, and of no other
    over : (P : List (Record K V) → Type 0) → Over x (batch_of x.kinds g) w e P → P g.records
    over P (inl (m, h, r)) = subst P (laid_for_once x.kinds l.kinds.key (batch_of x.kinds g) m g.records w.cells h own) r
    over P (inr (none, h)) = absurd (none g.records own)

    enter_case : (r : Option Fault) (sheet : List (Command Row V))
        → Unless r (Refuses w e) (Over x (batch_of x.kinds g) w e (λ m. Leaves w e (entered x w e.lent g.seed sheet m)))
        → (e.outcome ≡ or_refused r (Outcome.entered (answers_to x.kinds sheet g.records)))
        × SimW x s (unless_refused {Row = Row} {V = V} (or_refused r (Outcome.entered (answers_to x.kinds sheet g.records))) (machine v (Some g))
        (machine v (Some (contents g.seed (map_after_sheet x.kinds sheet g.records))))) e.after
    enter_case (Some f) sheet h = (h.outcome, landed h i)
    enter_case None sheet h =
        let le = over (λ m. Leaves w e (entered x w e.lent g.seed sheet m)) h in
        let after = contents g.seed (map_after_sheet x.kinds sheet g.records) in
        let good : Lawful x.kinds after = lawful_sheet x.kinds l.kinds.key g.seed sheet g.records lawful in (
          le.outcome,
          landed le (record {
            blocks = i.blocks;
            lock = i.lock;
            room = laid_length x.kinds l.kinds.key after good ∙ sym room_is;
            saved = i.saved;
            found = i.found;
            lies = (good, refl, refl);
          }),
        )

    list_case : (r : Option Fault)
        → Unless r (Refuses w e) (Over x (batch_of x.kinds g) w e (λ m. Leaves w e (listed x w e.lent g.seed m)))
        → (e.outcome ≡ or_refused r (Outcome.listed (length g.records) (listing x.kinds g)))
        × SimW x s (unless_refused (or_refused r (Outcome.listed (length g.records) (listing x.kinds g))) (machine v (Some g)) (machine v (Some g))) e.after
    list_case (Some f) h = (h.outcome, landed h i)
    list_case None h = let le = over (λ m. Leaves w e (listed x w e.lent g.seed m)) h in (le.outcome, landed le i)

    -- what a seal has to show, by the outcome that the machine has for it
    abbrev SealFollows : Outcome Row V → Type 0
    SealFollows o =
        (e.outcome ≡ o)
        × (e.outcome ≡ Outcome.accepted → ImageOf x s.count e.after.store.kept (unless_refused o (machine v (Some g)) (machine (Some g) None)).saved)
        × SimW x s (unless_refused o (machine v (Some g)) (machine (Some g) None)) e.after

    seal_refused : (f : Fault) → Refuses w e f → SealFollows (Outcome.refused f)
    seal_refused f h = (h.outcome, (λ a. let n = h.outcome in let z : ◌≡◌ {A = ℕ} 0 1 = cc in absurd (omega arith)), landed h i)

    seal_write : (r : Option Fault) → write_refusal (x.codec.image_length g) s.count s.protected ≡ r
        → Unless r (Refuses w e) (Leaves w e (sealed x w e.lent g) × Flushed e) → SealFollows (or_refused r Outcome.accepted)
    seal_write (Some f) q h = seal_refused f h
    seal_write None q (le, k) =
        let image : x.codec.image w.store.count g ≡ x.codec.image s.count g = ap (λ (n : ℕ). x.codec.image n g) i.blocks in (
          le.outcome,
          (λ a. k ∙ le.shown ∙ image),
          landed le (record {
            blocks = i.blocks;
            lock = i.lock;
            room = length-replicate (length w.cells) None ∙ i.room;
            saved = record { lawful = lawful; fits = (write_taken (x.codec.image_length g) s.count s.protected q).0; image = image };
            found = λ z. let c : ◌≡◌ {A = ℕ} 0 1 = cc in absurd (omega arith);
            lies = tt;
          }),
        )

    seal_case : (r : Option Fault) → Unless r (Refuses w e) (Over x (batch_of x.kinds g) w e (λ m. Writes x w e (contents g.seed m)))
        → SealFollows (or_refused r (or_refused (write_refusal (x.codec.image_length g) s.count s.protected) Outcome.accepted))
    seal_case (Some f) h = seal_refused f h
    seal_case None h =
        seal_write (write_refusal (x.codec.image_length g) s.count s.protected) refl
        (moved (Refuses w e) _
        (ap (λ (n : ℕ). write_refusal (x.codec.image_length g) n w.store.protected) i.blocks ∙ ap (write_refusal (x.codec.image_length g) s.count) i.lock)
        (over (λ m. Writes x w e (contents g.seed m)) h))

    -- a call on the open batch
    open_case : (c : Call Row V) → StepAt x w e (Phase.opened (batch_of x.kinds g)) c → Follows x s v (Some g) c e
    open_case (Call.start t) h = absurd h
    open_case Call.begin h = absurd h
    open_case (Call.enter sheet) h =
        let same = ap (λ (o : Bool). enter_refusal x.kinds o (length w.cells) sheet e.lent) (own_kinds x.kinds g)
        ∙ ap (λ (n : ℕ). enter_refusal x.kinds false n sheet e.lent) i.room in
        let r = enter_case (enter_refusal x.kinds false s.room sheet e.lent) sheet (moved (Refuses w e) _ same h) in
        record { reply = ap Some r.0; kept = λ q a. let z : ◌≡◌ {A = ℕ} 0 1 = cc in absurd (omega arith); sim = r.1 }
    open_case Call.list h =
        let n = length g.records in
        let room = length e.lent.output in
        let same = ap (λ (o : Bool). list_refusal o (length w.cells) n room) (own_kinds x.kinds g) ∙ ap (λ (k : ℕ). list_refusal false k n room) i.room in
        let r = list_case (list_refusal false s.room n room) (moved (Refuses w e) _ same h) in
        record { reply = ap Some r.0; kept = λ q a. let z : ◌≡◌ {A = ℕ} 0 1 = cc in absurd (omega arith); sim = r.1 }
    open_case Call.seal h =
        let work = length e.lent.work in
        let same = ap (λ (o : Bool). seal_refusal o (length w.cells) w.store.count work) (own_kinds x.kinds g)
        ∙ ap (λ (n : ℕ). seal_refusal false n w.store.count work) i.room
        ∙ ap (λ (n : ℕ). seal_refusal false s.room n work) i.blocks in
        let r = seal_case (seal_refusal false s.room s.count work) (moved (Refuses w e) _ same h) in
        record { reply = ap Some r.0; kept = λ q a. r.1 a; sim = r.2 }
    open_case Call.abandon h = record {
      reply = ap Some h.outcome;
      kept = λ q a. let z : ◌≡◌ {A = ℕ} 0 1 = cc in absurd (omega arith);
      sim = landed h (record { blocks = i.blocks; lock = i.lock; room = length-replicate (length w.cells) None ∙ i.room; saved = i.saved; found = i.found; lies = tt });
    }

  -- a call on the closed register
  closed_case : (v : Option (Contents K V)) (c : Call Row V) → SimW x s (machine v None) w → StepAt x w e Phase.closed c → Follows x s v None c e
  closed_case v (Call.start t) i h =
      let same = ap (λ (n : ℕ). start_refusal n (length w.cells)) i.blocks ∙ ap (start_refusal s.count) i.room in
      let r = start_case (start_refusal s.count s.room) v t refl h.0 i (moved (Refuses w e) _ same h.1) in
      record { reply = ap Some r.0; kept = λ q a. let z : ◌≡◌ {A = ℕ} 0 1 = cc in absurd (omega arith); sim = r.1 }
  closed_case v Call.begin i h =
      let work = length e.lent.work in
      let same = ap (λ (n : ℕ). begin_refusal n (length w.cells) work) i.blocks ∙ ap (λ (n : ℕ). begin_refusal s.count n work) i.room in
      let r = begin_case (begin_refusal s.count s.room work) v refl i (moved (Refuses w e) _ same h) in
      record { reply = ap Some r.0; kept = λ q a. let z : ◌≡◌ {A = ℕ} 0 1 = cc in absurd (omega arith); sim = r.1 }
  closed_case v (Call.enter sheet) i h = absurd h
  closed_case v Call.list i h = absurd h
  closed_case v Call.seal i h = absurd h
  closed_case v Call.abandon i h = absurd h

  follows_at : (v o : Option (Contents K V)) (p : Phase) → SimW x s (machine v o) w → OpenStands x o p w.cells → StepAt x w e p e.call → Follows x s v o e.call e
  follows_at v None Phase.closed i f h = closed_case v e.call i h
  follows_at v (Some g) Phase.closed i f h = absurd f
  follows_at v None (Phase.opened b) i f h = absurd f
  follows_at v (Some g) (Phase.opened b) i f h =
      open_case v g i f.0 f.2 e.call (subst (λ (c : Batch). StepAt x w e (Phase.opened c) e.call) f.1 h)

  -- the step goes as the machine has it
  pub follows : (m : Machine K V) → SimW x s m w → Step x w e → Follows x s m.saved m.opened e.call e
  follows m i h = follows_at m.saved m.opened w.phase i i.lies h.does
