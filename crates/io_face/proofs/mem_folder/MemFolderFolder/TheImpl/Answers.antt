use Rattle.std.proofs.Common.{◌≡◌, Some, refl, ap, arith}
use Rattle.std.specs.Option.{option_map}
use Rattle.std.specs.FinMap.{from_entries}
use Rattle.std.proofs.lemmas.Result.{IfOk-weaker, on_err_weaker, on_ok_weaker}
use Rattle.io_face.specs.Memory.{text_of}
use Rattle.io_face.specs.Folder.{Loads}
use Rattle.io_face.proofs.ShelfLemmas.{text_is_told, same_either_way}
use Rattle.io_face.proofs.mem_folder.MemFolderFolder.TheImpl.Goals as goal

pub load-tells : goal.load-tells
load-tells c =
    let old = c.args.self.now in
    let name = c.args.name.now in
    record {
      loaded = IfOk-weaker c.result (λ found. option_map (λ input. input.left) found ≡ text_of old.entries name) (λ found. Loads (Some (from_entries old.entries)) name (option_map (λ input. Some input.left) found)) (λ found h. text_is_told old.entries name found h) c.ensures.found;
      fresh = c.ensures.fresh;
      files = ap (λ es. Some (from_entries es)) (same_either_way c.result (λ s. s.entries) c.ensures.ok c.ensures.err refl);
      faults = c.ensures.faults;
      quiet = on_ok_weaker c.result (λ e. ap (λ s. s.calls.faults) e) c.ensures.ok;
      cause = on_err_weaker c.result (λ e. let f = ap (λ s. s.calls.faults) e in omega (arith, f)) c.ensures.err;
    }
