-- Calls that were made: what was passed, what was answered, what was passed as it is after the call, and what the call's own contract says
-- of these, as a caller learns it. The theorems speak of such calls, so they lean on what `page`, `read`, `pack` and `stretch` promise.
use Rattle.std.specs.Prelude.{ℕ, ◌≡◌, List}
use Rattle.paper.specs.declared.Listed.{Listed}
use Rattle.paper.specs.Refusals.{Res}
use contract.Lifetimes.{Lfts}
use denote.Triple.Clauses.{AtExit}
use borrow.Fn.Kinds.{Dens, res_t, ended_of}
use Rattle.paper.specs.declared.Form.{Form}
use Rattle.paper.specs.declared.Reading.{Reading}
use Rattle.paper.specs.Listing.{page}
use Rattle.paper.specs.Stretch.{Side}
use Rattle.bundle.specs.Read.{ReadAll}
use Rattle.bundle.proofs.read.Kinds as ReadKinds
use Rattle.bundle.proofs.read.Reads as ReadReads
use Rattle.bundle.proofs.Promised.{read-promised}
use Rattle.pack.specs.Laid.{shapes_of}
use Rattle.pack.specs.Laying.{PackedInto}
use Rattle.pack.proofs.pack.Kinds as PackKinds
use Rattle.pack.proofs.pack.Reads as PackReads
use Rattle.pack.proofs.Promised.{pack-promised}
use Rattle.stretch.specs.Sides.{sided}
use Rattle.stretch.specs.Handed.{Handed}
use Rattle.stretch.proofs.stretch.Kinds as StretchKinds
use Rattle.stretch.proofs.stretch.Reads as StretchReads
use Rattle.stretch.proofs.Promised.{stretch-promised}
use Rattle.run.proofs.page.Kinds as PageKinds
use Rattle.run.proofs.page.Reads as PageReads
use Rattle.run.proofs.Promised.{page-promised}

-- ---- `bundle::read`

pub record ReadCall : Type 0 where
  pub lifetimes : Lfts 1
  pub passed : Dens lifetimes ReadKinds.ps
  pub answer : Res Reading
  pub left : AtExit (ended_of 1 ReadKinds.ps ReadKinds.r) lifetimes
  pub promised : ReadReads.Learnt lifetimes passed answer left

-- of these bytes
pub reads : (c : ReadCall) {bs : List ℕ} → c.passed.0.now ≡ bs → ReadAll bs c.answer
reads c e = rw e at (read-promised c.lifetimes c.passed c.answer c.left c.promised)

-- ---- `pack::pack`

pub record PackCall : Type 0 where
  pub lifetimes : Lfts 2
  pub passed : Dens lifetimes PackKinds.ps
  pub answer : Res ℕ
  pub left : AtExit (ended_of 2 PackKinds.ps PackKinds.r) lifetimes
  pub promised : PackReads.Learnt lifetimes passed answer left

-- told this version: so many of these forms, with these cells, into this buffer
pub record Packs (v n : ℕ) (fs : List Form) (cs d : List ℕ) (c : PackCall) : Type 0 where
  pub version : c.passed.0 ≡ v
  pub count : c.passed.1.0 ≡ n
  pub forms : c.passed.1.1.0 ≡ fs
  pub cells : c.passed.1.1.1.0.now ≡ cs
  pub out : c.passed.1.1.1.1.0.now ≡ d

-- the buffer after it
abbrev pub packed_out : PackCall → List ℕ
packed_out c = c.left.1.1.1.1.0.now

pub packs : (c : PackCall) {v n : ℕ} {fs : List Form} {cs d : List ℕ} → Packs v n fs cs d c
    → PackedInto v (shapes_of n fs) cs d c.answer (packed_out c)
packs c w =
    rw (w.version, w.count, w.forms, w.cells, w.out) at (pack-promised c.lifetimes c.passed c.answer c.left c.promised)

-- ---- `stretch::stretch`

pub record StretchCall : Type 0 where
  pub lifetimes : Lfts 2
  pub passed : Dens lifetimes StretchKinds.ps
  pub answer : (res_t StretchKinds.r lifetimes).Denot
  pub left : AtExit (ended_of 2 StretchKinds.ps StretchKinds.r) lifetimes
  pub promised : StretchReads.Learnt lifetimes passed answer left

-- told this version: of these sides, glued along axis k, from ordinality o on
pub record Stretches (v : ℕ) (L R : Side) (k o : ℕ) (c : StretchCall) : Type 0 where
  pub version : c.passed.0 ≡ v
  pub left : sided c.passed.1.0 c.passed.1.1.0 c.passed.1.1.1.0 c.passed.1.1.1.1.0.now ≡ L
  pub right : sided c.passed.1.1.1.1.1.0 c.passed.1.1.1.1.1.1.0 c.passed.1.1.1.1.1.1.1.0
      c.passed.1.1.1.1.1.1.1.1.0.now ≡ R
  pub axis : c.passed.1.1.1.1.1.1.1.1.1.0.0 ≡ k
  pub from : c.passed.1.1.1.1.1.1.1.1.1.1.0.0 ≡ o

-- the figures beside what is handed out
abbrev pub told : StretchCall → List ℕ
told c = c.left.1.1.1.1.1.1.1.1.1.1.1.0.now

pub stretches : (c : StretchCall) {v : ℕ} {L R : Side} {k o : ℕ} → Stretches v L R k o c → Handed v L R k o c.answer.now (told c)
stretches c w =
    rw (w.version, w.left, w.right, w.axis, w.from) at
    (stretch-promised c.lifetimes c.passed c.answer c.left c.promised)

-- ---- `run::page`

pub record PageCall : Type 0 where
  pub lifetimes : Lfts 4
  pub passed : Dens lifetimes PageKinds.ps
  pub answer : Res Listed
  pub left : AtExit (ended_of 4 PageKinds.ps PageKinds.r) lifetimes
  pub promised : PageReads.Learnt lifetimes passed answer left

-- over this bundle and recipe, work area, start and row buffer
pub record Pages (B bs W : List ℕ) (o : ℕ) (L : List ℕ) (c : PageCall) : Type 0 where
  pub bundle : c.passed.0.now ≡ B
  pub recipe : c.passed.1.0.now ≡ bs
  pub work : c.passed.1.1.0.now ≡ W
  pub start : c.passed.1.1.1.0.0 ≡ o
  pub rows : c.passed.1.1.1.1.0.now ≡ L

-- the work area and the row buffer after it
abbrev pub work_left : PageCall → List ℕ
work_left c = c.left.1.1.0.now

abbrev pub rows_left : PageCall → List ℕ
rows_left c = c.left.1.1.1.1.0.now

pub pages : (c : PageCall) {B bs W : List ℕ} {o : ℕ} {L : List ℕ} → Pages B bs W o L c
    → record { answer = c.answer; work = work_left c; rows = rows_left c } ≡ page B bs W o L
pages c w =
    rw (w.bundle, w.recipe, w.work, w.start, w.rows) at (page-promised c.lifetimes c.passed c.answer c.left c.promised)
