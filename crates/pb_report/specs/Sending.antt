-- What writing a report adds to the bytes of a writer.
use Rattle.std.specs.Prelude.{◌≡◌, ℕ, Bool, true, false, List, Option}
use Rattle.std.specs.Io.KnownBytes.{Appends, append_known}
use Rattle.pb_report.specs.Device.{Device}
use Rattle.pb_report.specs.declared.writing.writer.Report.{Report}

-- a failed device stays failed, and where it has not failed by the end, known bytes have grown by these
pub record Grows (failed failed' : Bool) (old new : Option (List ℕ)) (bytes : List ℕ) : Type 0 where
  pub stays : failed ≡ true → failed' ≡ true
  pub grown : failed' ≡ false → Appends old new bytes

-- these bytes were written, unless the device has failed
abbrev pub Writes : {T : Type 0} → (T → Option (List ℕ)) → Device T → Device T → List ℕ → Type 0
Writes contents out out' bytes = Grows out.failed out'.failed (contents out.held) (contents out'.held) bytes

-- the bytes that the writer holds, and then those that wait
abbrev pub told : {T : Type 0} → (T → Option (List ℕ)) → Report T → Option (List ℕ)
told contents report = append_known (contents report.out.now.held) report.waiting

-- the report goes to the same device, and these bytes came to what was told, unless the device has failed
pub record Adds {T : Type 0} (contents : T → Option (List ℕ)) (old new : Report T) (bytes : List ℕ) : Type 0 where
  pub same_device : new.out.ghost_name ≡ old.out.ghost_name
  pub grows : Grows old.out.now.failed new.out.now.failed (told contents old) (told contents new) bytes
