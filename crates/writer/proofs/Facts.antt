-- What the checks see of a laid-out file, and its size.
use mathlib.Core.Path.{◌≡◌}
use mathlib.Core.List.{List}
use Prim.Native.Nat.{ℕ, ◌≤◌, ◌<◌, min}
use lib.Dec.{eqb}
use lib.ListN.{length, take}
use Rattle.lists.specs.Count.{pick}
use Rattle.lists.specs.Pairs.{first_of, second_of}
use Rattle.little_endian.specs.Number.{le}
use Rattle.layout.specs.Head.{version_at, signature_at, declared_size_at, stored_hash_at}
use Rattle.layout.specs.Versions.{version_number, head_end, run_time_at, run_count_at, trace_entry, size_limit}
use Rattle.layout.specs.declared.Version.{Version}
use Rattle.layout.specs.declared.Layout.{Layout}
use Rattle.sections.specs.Fields.{name_end, head_of, part}
use Rattle.names.specs.Names.{name_at, name_units}
use Rattle.trace.specs.Links.{nexts}
use Rattle.writer.specs.LaidOut.{Description, name_kept, pairs, laid_size}
use Rattle.writer.specs.Private.{head_for, links_in}
use Rattle.std.specs.Prelude.{None, Some}

-- what stands before byte 76, whatever the size
pub record StartFacts (v : Version) (l : Layout) (d : Description) (p : List ℕ) : Type 0 where
  pub long : length p ≡ laid_size l d
  pub version : le 4 p version_at ≡ version_number v
  pub signature : le 4 p signature_at ≡ 0x41434353
  pub size : le 4 p declared_size_at ≡ min (laid_size l d) 4_294_967_295
  pub ended : name_end (take 76 p) ≡ pick (eqb (length (name_kept d)) 30) None (Some (length (name_kept d)))

-- and the rest, where the size is within the limit
pub record LaidFacts (v : Version) (l : Layout) (d : Description) (p : List ℕ) : Type 0 where
  pub start : StartFacts v l d p
  pub small : laid_size l d ≤ size_limit
  pub hash : le 4 p stored_hash_at ≡ d.stored_hash
  pub time : le 8 p (run_time_at l) ≡ d.run_time
  pub count : le 4 p (run_count_at l) ≡ d.run_count
  pub sections : head_of l (take (head_end l) p) ≡ head_for l d
  pub name_at_lem : (i : ℕ) → i < pairs d.metrics → name_at l (part (head_for l d).metrics p) i ≡ first_of d.metrics i
  pub name_units_lem : (i : ℕ) → i < pairs d.metrics → name_units l (part (head_for l d).metrics p) i ≡ second_of d.metrics i
  pub links : nexts (part (head_for l d).trace p) (trace_entry l) (pairs d.trace) ≡ links_in d
  pub strings : part (head_for l d).strings p ≡ d.strings
  pub volumes : part (head_for l d).volumes p ≡ d.volumes
