-- What a new folder is made of, by what was read.
use Rattle.std.proofs.Common.{◌≡◌, ℕ, ◌+◌, List, [], ◌++◌, map, length, Option, None, Some, Result, Ok, Err, refl, sym, ap, subst, ◌∙◌}
use Rattle.std.specs.Option.{option_map}
use Rattle.std.proofs.lemmas.List.{length-map}
use Rattle.fhir_package.specs.Folder.{Files}
use Rattle.fhir_package.specs.Packing.{pack}
use Rattle.fhir_gather.specs.declared.fault.GatherFault.{GatherFault}
use Rattle.fhir_gather.specs.declared.fault.GatherFault.TheVariants.{Exists, Left, Unlisted, Unreadable, NotJson, Unwritten, NoMemory}
use Rattle.fhir_gather.specs.declared.gathered.Gathered.{Gathered as Told}
use Rattle.fhir_gather.specs.Gathering.{Taken, Folders, FileAt, all_taken, Gathered, gathered, nothing_gathered, kept, package_of}
use Rattle.fhir_gather.specs.Reading.{ReadFolders, first_unread, files_with_bytes, folders_with_bytes, gather_folders, or_refusal, not_json, gather_unless, gather, gathered_of}
use Rattle.fhir_gather.specs.Faults.{IsRefusal}
use Rattle.fhir_gather.specs.Written.{written}
use Rattle.fhir_gather.specs.Making.{with_json_files, AreRead, file_count, Tells, IsTold, IsMade, LoadsFirst, IsAnswer}
use Rattle.fhir_gather.proofs.Keeping.{counts}
use Rattle.fhir_gather.proofs.Packaged.{first_of_all}
use Rattle.fhir_gather.proofs.Readings.{all_gathered, same_folders}

-- ---- what a gathering says of the folders

same_gathered : (g h : Gathered) → (let r : Result Gathered FileAt = Ok g in r ≡ Ok h) → g ≡ h
same_gathered g h e = cc

same_file : (f g : FileAt) → (let r : Result Gathered FileAt = Err f in r ≡ Err g) → f ≡ g
same_file f g e = cc

-- by all definitions in them
taken_by : (r : Result (List Taken) FileAt) (g : Gathered) → gathered_of r ≡ Ok g → (ts : List Taken) × (r ≡ Ok ts) × (gathered ts ≡ g)
taken_by (Ok ts) g e = (ts, refl, same_gathered (gathered ts) g e)
taken_by (Err file) g e = absurd cc

refused_by : (r : Result (List Taken) FileAt) (file : FileAt) → gathered_of r ≡ Err file → r ≡ Err file
refused_by (Ok ts) file e = absurd cc
refused_by (Err f) file e = ap (λ (g : FileAt). Err g) (same_file f file e)

was_ok : (r : Result Gathered FileAt) (g : Gathered) → or_refusal r ≡ Ok g → r ≡ Ok g
was_ok (Ok h) g e = let same : h ≡ g = cc in ap (λ (x : Gathered). Ok x) same
was_ok (Err f) g e = absurd cc

was_err : (r : Result Gathered FileAt) (file : FileAt) → or_refusal r ≡ Err (not_json file) → r ≡ Err file
was_err (Ok h) file e = absurd cc
was_err (Err f) file e = let same : f ≡ file = cc in ap (λ (x : FileAt). Err x) same

gathered_ok : (reads : ReadFolders) (g : Gathered) → gather reads ≡ Ok g → (first_unread reads ≡ None) × (gathered_of (all_taken (folders_with_bytes reads)) ≡ Ok g)
gathered_ok reads g e = by (first_unread reads) refl e
  where
    by : (o : Option FileAt) → first_unread reads ≡ o → gather_unless o (folders_with_bytes reads) ≡ Ok g
        → (first_unread reads ≡ None) × (gathered_of (all_taken (folders_with_bytes reads)) ≡ Ok g)
    by None is e = (is, sym (all_gathered (folders_with_bytes reads)) ∙ was_ok (gather_folders (folders_with_bytes reads) nothing_gathered) g e)
    by (Some file) is e = absurd cc

gathered_err : (reads : ReadFolders) (file : FileAt) → gather reads ≡ Err (not_json file)
    → (first_unread reads ≡ None) × (gathered_of (all_taken (folders_with_bytes reads)) ≡ Err file)
gathered_err reads file e = by (first_unread reads) refl e
  where
    by : (o : Option FileAt) → first_unread reads ≡ o → gather_unless o (folders_with_bytes reads) ≡ Err (not_json file)
        → (first_unread reads ≡ None) × (gathered_of (all_taken (folders_with_bytes reads)) ≡ Err file)
    by None is e = (is, sym (all_gathered (folders_with_bytes reads)) ∙ was_err (gather_folders (folders_with_bytes reads) nothing_gathered) file e)
    by (Some f) is e = absurd cc

-- ---- a refusal

pub refused_lem : (xs : Folders) (reads : ReadFolders) (fault : GatherFault) → AreRead xs reads → IsRefusal fault (gather reads)
    → IsAnswer fault (all_taken (map with_json_files xs))
refused_lem xs reads Exists are h = absurd h
refused_lem xs reads Left are h = absurd h
refused_lem xs reads (Unlisted folder) are h = absurd h
refused_lem xs reads (Unreadable folder file) are h = tt
refused_lem xs reads (NotJson folder file) are h =
    let both = gathered_err reads _ h in
    ap (λ (ys : Folders). all_taken ys) (sym (same_folders xs reads are both.0)) ∙ refused_by (all_taken (folders_with_bytes reads)) _ both.1
refused_lem xs reads (Unwritten name) are h = absurd h
refused_lem xs reads NoMemory are h = tt

-- ---- what is made

told_by : (ys : Folders) (ts : List Taken) (g : Gathered) (told : Told) (count total : ℕ) → gathered ts ≡ g → count ≡ length ys → total ≡ file_count ys
    → Tells count total g told → IsTold ys ts told
told_by ys ts g told count total is how_many files t = record {
  folders = t.folders ∙ how_many;
  files = t.files ∙ files;
  definitions = t.definitions ∙ ap (λ (h : Gathered). length h.kept + length h.dropped) (sym is) ∙ counts ts;
  kept = t.kept ∙ ap (λ (h : Gathered). length h.kept) (sym is);
  dropped = t.dropped ∙ ap (λ (h : Gathered). h.dropped) (sym is);
}

pub made_lem : (xs : Folders) (reads : ReadFolders) (g : Gathered) (told : Told) (before after whole : Option Files) (ks : List Taken) (count total : ℕ)
    → AreRead xs reads → gather reads ≡ Ok g → ks ≡ g.kept → before ≡ Some [] → after ≡ option_map (λ files. files ++ written ks) before → whole ≡ after
    → count ≡ length reads → total ≡ file_count (folders_with_bytes reads) → Tells count total g told → IsMade (map with_json_files xs) whole told
made_lem xs reads g told before after whole ks count total are is same begun put finished how_many files t =
    let both = gathered_ok reads g is in
    let all = taken_by (all_taken (folders_with_bytes reads)) g both.1 in
    subst (λ (ys : Folders). IsMade ys whole told) (same_folders xs reads are both.0)
    (record {
      taken = all.0;
      all = all.1;
      made =
          finished ∙ put ∙ ap (option_map (λ files. files ++ written ks)) begun
          ∙ ap (λ (ts : List Taken). Some (written ts)) (same ∙ ap (λ (h : Gathered). h.kept) (sym all.2));
      is_told = told_by (folders_with_bytes reads) all.0 g told count total all.2 (how_many ∙ sym (length-map reads (λ x. (x.0, files_with_bytes x.1)))) files t;
    })

pub loads_first : ((folders : Folders) (ts : List Taken) → all_taken folders ≡ Ok ts → pack (written (kept ts)) ≡ Ok (package_of (kept ts)))
    → (xs : Folders) (whole : Option Files) (told : Told) → IsMade xs whole told → LoadsFirst xs whole
loads_first law xs whole told m = record {
  files = written (kept m.taken);
  definitions = package_of (kept m.taken);
  taken = m.taken;
  stands = m.made;
  packed = law xs m.taken m.all;
  all = m.all;
  first = λ kind url. first_of_all kind url m.taken;
}
