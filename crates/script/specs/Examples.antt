-- Worked lines.
use Rattle.std.specs.Prelude.{◌≡◌, ◌↔◌, ◌≤◌, ◌<◌, ◌^◌, ℕ, true, false, List, Some, None, ◌++◌, [], ◌∷◌, codes, replicate}
use Rattle.std.specs.Fmt.{decimal}
use Rattle.std.specs.FinMap as finmap
use Rattle.base.specs.declared.refusal.Refusal.TheVariants.{BadName, NoDataset, BadLine}
use Rattle.base.specs.declared.name.target.Target.TheVariants.{FileSystem, Snapshot, Bookmark}
use Rattle.model.specs.declared.request.Property.TheVariants.{Used, Available, Referenced, Written, UsedByDataset, UsedBySnapshots, UsedByChildren, UsedByRefReservation, Quota, RefQuota, Reservation, RefReservation, Guid, CreateTxg, Origin, Clones, UserRefs, DeferDestroy}
use Rattle.model.specs.declared.destroy_target.DestroyTarget.TheVariants as destroys
use Rattle.model.specs.declared.limits.Limit.TheVariants as limits
use Rattle.model.specs.declared.receiving.Receiving.TheVariants.{Plain, Back}
use Rattle.model.specs.declared.request.PoolProperty.TheVariants.{Free, Freeing}
use Rattle.model.specs.declared.request.Request.TheVariants.{Create, Write, Punch, FreeObject, Snapshot as TakeSnapshots, Read, Get, PoolGet, List as ListNames, Rollback, Destroy, Slice, Sync, Abandon, OpenView, CloseView, Clone, Promote, Hold, Release, Holds, Bookmark as MakeBookmark, WrittenSince, WouldFree, Set, Send, Receive}
use Rattle.model.specs.declared.reply.Reply.TheVariants.{Done, Refused, Value as ValueIs, Group, Names, Count, Opened, Stream}
use Rattle.model.specs.declared.reply.Value.TheVariants.{Size, Named, Truth}
use Rattle.script.specs.Lines.{lines}
use Rattle.script.specs.Words.{number_up_to}
use Rattle.script.specs.Meaning.{meaning, Silent, Faulty, Asks}
use Rattle.script.specs.Text.{line_of}

-- what some lines ask for, and what some replies are written as (profile)
pub record WorkedLines : Type 0 where
  pub three : lines (codes "a" ++ 10 ∷ 10 ∷ codes "b") ≡ codes "a" ∷ [] ∷ codes "b" ∷ []
  pub ended : lines (codes "a" ++ 10 ∷ []) ≡ codes "a" ∷ []
  pub empty : meaning [] ≡ Silent
  pub comment : meaning (codes "# no") ≡ Silent
  pub write : meaning (codes "write p 0 1 6aF0") ≡ Asks (Write (FileSystem (codes "p")) 0 1 (106 ∷ 240 ∷ replicate 510 0))
  pub read : meaning (codes "read p/a 0 17") ≡ Asks (Read (FileSystem (codes "p/a")) 0 17)
  pub of_snapshot : meaning (codes "read p@s 1 2") ≡ Asks (Read (Snapshot (record { file_system = codes "p"; component = codes "s" })) 1 2)
  pub get : meaning (codes "get referenced p") ≡ Asks (Get (FileSystem (codes "p")) Referenced)
  pub get_written : meaning (codes "get written p/a@s") ≡ Asks (Get (Snapshot (record { file_system = codes "p/a"; component = codes "s" })) Written)
  pub get_guid : meaning (codes "get guid p@s") ≡ Asks (Get (Snapshot (record { file_system = codes "p"; component = codes "s" })) Guid)
  pub get_group : meaning (codes "get createtxg p@s") ≡ Asks (Get (Snapshot (record { file_system = codes "p"; component = codes "s" })) CreateTxg)
  pub create : meaning (codes "create p/a") ≡ Asks (Create (codes "p/a"))
  pub create_slash : meaning (codes "create p/a/") ≡ Faulty BadName
  pub punch : meaning (codes "punch p/a 0 17") ≡ Asks (Punch (FileSystem (codes "p/a")) 0 17)
  pub free_object : meaning (codes "rmobj p/a 3") ≡ Asks (FreeObject (FileSystem (codes "p/a")) 3)
  pub snapshot : meaning (codes "snapshot p@s") ≡ Asks (TakeSnapshots (record { file_system = codes "p"; component = codes "s" } ∷ []) false)
  pub snapshot_all : meaning (codes "snapshot -r p@s") ≡ Asks (TakeSnapshots (record { file_system = codes "p"; component = codes "s" } ∷ []) true)
  pub snapshot_two :
      meaning (codes "snapshot p/a@n p@m")
      ≡ Asks (TakeSnapshots (record { file_system = codes "p/a"; component = codes "n" } ∷ record { file_system = codes "p"; component = codes "m" } ∷ []) false)
  pub snapshot_none : meaning (codes "snapshot -r") ≡ Faulty BadLine
  pub snapshot_file_system : meaning (codes "snapshot p@s p") ≡ Faulty BadName
  pub rollback :
      meaning (codes "rollback p/a@s")
      ≡ Asks (Rollback (Snapshot (record { file_system = codes "p/a"; component = codes "s" })) false)
  pub rollback_later :
      meaning (codes "rollback -r p@s")
      ≡ Asks (Rollback (Snapshot (record { file_system = codes "p"; component = codes "s" })) true)
  pub rollback_file_system : meaning (codes "rollback p") ≡ Asks (Rollback (FileSystem (codes "p")) false)
  pub rollback_twice : meaning (codes "rollback -r -r p@s") ≡ Faulty BadLine
  pub rollback_deferred : meaning (codes "rollback -d p@s") ≡ Faulty BadLine
  pub rollback_option_last : meaning (codes "rollback p@s -r") ≡ Faulty BadLine
  pub rollback_none : meaning (codes "rollback -r") ≡ Faulty BadLine
  pub rollback_bad_name : meaning (codes "rollback -r p@") ≡ Faulty BadName
  pub destroy : meaning (codes "destroy p/a") ≡ Asks (Destroy (destroys.FileSystem (codes "p/a")) false false)
  pub destroy_all :
      meaning (codes "destroy -r p@s")
      ≡ Asks (Destroy (destroys.Snapshots (record { file_system = codes "p"; component = codes "s" } ∷ [])) true false)
  pub destroy_deferred :
      meaning (codes "destroy -d p@s")
      ≡ Asks (Destroy (destroys.Snapshots (record { file_system = codes "p"; component = codes "s" } ∷ [])) false true)
  pub destroy_all_deferred :
      meaning (codes "destroy -r -d p@s")
      ≡ Asks (Destroy (destroys.Snapshots (record { file_system = codes "p"; component = codes "s" } ∷ [])) true true)
  pub remove_bookmark :
      meaning (codes "destroy p#s")
      ≡ Asks (Destroy (destroys.Bookmark (record { file_system = codes "p"; component = codes "s" })) false false)
  pub destroy_turned : meaning (codes "destroy -d -r p@s") ≡ Faulty BadLine
  pub destroy_two : meaning (codes "destroy p/a p/b") ≡ Faulty BadLine
  pub destroy_bad_name : meaning (codes "destroy p//a") ≡ Faulty BadName
  pub clone : meaning (codes "clone p/a@s p/c") ≡ Asks (Clone (Snapshot (record { file_system = codes "p/a"; component = codes "s" })) (codes "p/c"))
  pub clone_of_none : meaning (codes "clone p/a@s") ≡ Faulty BadLine
  pub clone_to_snapshot : meaning (codes "clone p/a@s p/c@s") ≡ Faulty BadName
  pub promote : meaning (codes "promote p/c") ≡ Asks (Promote (codes "p/c"))
  pub promote_snapshot : meaning (codes "promote p/c@s") ≡ Faulty BadName
  pub origin : meaning (codes "get origin p/c") ≡ Asks (Get (FileSystem (codes "p/c")) Origin)
  pub clones : meaning (codes "get clones p/a@s") ≡ Asks (Get (Snapshot (record { file_system = codes "p/a"; component = codes "s" })) Clones)
  pub hold : meaning (codes "hold .x p/a@s") ≡ Asks (Hold (codes ".x") (Snapshot (record { file_system = codes "p/a"; component = codes "s" })))
  pub hold_tag : meaning (codes "hold / p@") ≡ Faulty BadName
  pub hold_bare : meaning (codes "hold /") ≡ Faulty BadLine
  pub release : meaning (codes "release x p") ≡ Asks (Release (codes "x") (FileSystem (codes "p")))
  pub holds : meaning (codes "holds p@s") ≡ Asks (Holds (Snapshot (record { file_system = codes "p"; component = codes "s" })))
  pub bookmark :
      meaning (codes "bookmark p@s p#b")
      ≡ Asks (MakeBookmark (Snapshot (record { file_system = codes "p"; component = codes "s" })) (record { file_system = codes "p"; component = codes "b" }))
  pub bookmark_snapshot : meaning (codes "bookmark p@s p@b") ≡ Faulty BadName
  pub user_refs : meaning (codes "get userrefs p") ≡ Asks (Get (FileSystem (codes "p")) UserRefs)
  pub defer_destroy : meaning (codes "get defer_destroy p") ≡ Asks (Get (FileSystem (codes "p")) DeferDestroy)
  pub used : meaning (codes "get used p/a") ≡ Asks (Get (FileSystem (codes "p/a")) Used)
  pub used_by_snap : meaning (codes "get used p@s") ≡ Asks (Get (Snapshot (record { file_system = codes "p"; component = codes "s" })) Used)
  pub available : meaning (codes "get available p") ≡ Asks (Get (FileSystem (codes "p")) Available)
  pub used_by_dataset : meaning (codes "get usedbydataset p") ≡ Asks (Get (FileSystem (codes "p")) UsedByDataset)
  pub used_by_snapshots : meaning (codes "get usedbysnapshots p") ≡ Asks (Get (FileSystem (codes "p")) UsedBySnapshots)
  pub used_by_children : meaning (codes "get usedbychildren p") ≡ Asks (Get (FileSystem (codes "p")) UsedByChildren)
  pub used_by_refreservation : meaning (codes "get usedbyrefreservation p") ≡ Asks (Get (FileSystem (codes "p")) UsedByRefReservation)
  pub quota : meaning (codes "get quota p") ≡ Asks (Get (FileSystem (codes "p")) Quota)
  pub refquota : meaning (codes "get refquota p") ≡ Asks (Get (FileSystem (codes "p")) RefQuota)
  pub reservation : meaning (codes "get reservation p") ≡ Asks (Get (FileSystem (codes "p")) Reservation)
  pub refreservation : meaning (codes "get refreservation p") ≡ Asks (Get (FileSystem (codes "p")) RefReservation)
  pub set_quota : meaning (codes "set quota=1024 p/a") ≡ Asks (Set (codes "p/a") limits.Quota (Some 2))
  pub set_refquota : meaning (codes "set refquota=512 p") ≡ Asks (Set (codes "p") limits.RefQuota (Some 1))
  pub set_reservation_none : meaning (codes "set reservation=none p") ≡ Asks (Set (codes "p") limits.Reservation None)
  pub set_refreservation_zero : meaning (codes "set refreservation=0 p") ≡ Asks (Set (codes "p") limits.RefReservation None)
  pub set_greatest : meaning (codes "set quota=562949953421312 p") ≡ Asks (Set (codes "p") limits.Quota (Some 1099511627776))
  pub set_too_great : meaning (codes "set quota=562949953421824 p") ≡ Faulty BadLine
  pub set_no_multiple : meaning (codes "set quota=1000 p") ≡ Faulty BadLine
  pub set_leading_zero : meaning (codes "set quota=0512 p") ≡ Faulty BadLine
  pub set_signed : meaning (codes "set quota=+512 p") ≡ Faulty BadLine
  pub set_with_unit : meaning (codes "set quota=1K p") ≡ Faulty BadLine
  pub set_no_size : meaning (codes "set quota= p") ≡ Faulty BadLine
  pub set_no_equals : meaning (codes "set quota p") ≡ Faulty BadLine
  pub set_two_equals : meaning (codes "set quota=512=512 p") ≡ Faulty BadLine
  pub set_spaced : meaning (codes "set quota 1024 p") ≡ Faulty BadLine
  pub set_no_limit : meaning (codes "set used=512 p") ≡ Faulty BadLine
  pub set_alone : meaning (codes "set quota=512") ≡ Faulty BadLine
  pub set_snapshot : meaning (codes "set quota=512 p@s") ≡ Faulty BadName
  pub set_shape_first : meaning (codes "set quota=1 p@s") ≡ Faulty BadLine
  pub since_word :
      meaning (codes "get written@s p/a")
      ≡ Asks (WrittenSince (FileSystem (codes "p/a")) (record { file_system = codes "p/a"; component = codes "s" }))
  pub since_word_of_snapshot :
      meaning (codes "get written@s p/a@t")
      ≡ Asks (WrittenSince (Snapshot (record { file_system = codes "p/a"; component = codes "t" })) (record { file_system = codes "p/a"; component = codes "s" }))
  pub since_word_of_bookmark :
      meaning (codes "get written@s p/a#b")
      ≡ Asks (WrittenSince (Bookmark (record { file_system = codes "p/a"; component = codes "b" })) (record { file_system = codes "p/a"; component = codes "s" }))
  pub since_snap :
      meaning (codes "get written@p@s p/a")
      ≡ Asks (WrittenSince (FileSystem (codes "p/a")) (record { file_system = codes "p"; component = codes "s" }))
  pub since_none : meaning (codes "get written@ p") ≡ Faulty BadName
  pub since_path : meaning (codes "get written@p/s p") ≡ Faulty BadName
  pub since_bookmark : meaning (codes "get written@a#b p") ≡ Faulty BadName
  pub since_of_no_name : meaning (codes "get written@s p/") ≡ Faulty BadName
  pub since_longest :
      meaning (codes "get written@" ++ replicate 253 97 ++ codes " p")
      ≡ Asks (WrittenSince (FileSystem (codes "p")) (record { file_system = codes "p"; component = replicate 253 97 }))
  pub since_too_long : meaning (codes "get written@" ++ replicate 254 97 ++ codes " p") ≡ Faulty BadName
  pub since_alone : meaning (codes "get written@s") ≡ Faulty BadLine
  pub would_free : meaning (codes "wouldfree p/a s t") ≡ Asks (WouldFree (codes "p/a") (codes "s") (codes "t"))
  pub would_free_too_long : meaning (codes "wouldfree p s " ++ replicate 254 97) ≡ Faulty BadName
  pub would_free_one : meaning (codes "wouldfree p s") ≡ Faulty BadLine
  pub would_free_snapshot : meaning (codes "wouldfree p p@s t") ≡ Faulty BadName
  pub slice : meaning (codes "slice 20") ≡ Asks (Slice 20)
  pub slice_of_none : meaning (codes "slice 0") ≡ Asks (Slice 0)
  pub slice_greatest : meaning (codes "slice 4294967295") ≡ Asks (Slice 4294967295)
  pub slice_too_great : meaning (codes "slice 4294967296") ≡ Faulty BadLine
  pub slice_bare : meaning (codes "slice") ≡ Faulty BadLine
  pub view : meaning (codes "view p/a@s") ≡ Asks (OpenView (Snapshot (record { file_system = codes "p/a"; component = codes "s" })))
  pub view_file_system : meaning (codes "view p") ≡ Asks (OpenView (FileSystem (codes "p")))
  pub view_bad_name : meaning (codes "view p@") ≡ Faulty BadName
  pub unview : meaning (codes "unview 7") ≡ Asks (CloseView 7)
  pub unview_by_name : meaning (codes "unview p@s") ≡ Faulty BadLine
  pub list : meaning (codes "list") ≡ Asks ListNames
  pub sync : meaning (codes "sync") ≡ Asks Sync
  pub sync_extra : meaning (codes "sync extra") ≡ Faulty BadLine
  pub abandon : meaning (codes "abandon") ≡ Asks Abandon
  pub abandon_extra : meaning (codes "abandon x") ≡ Faulty BadLine
  pub free : meaning (codes "pget free") ≡ Asks (PoolGet Free)
  pub freeing : meaning (codes "pget freeing") ≡ Asks (PoolGet Freeing)
  pub no_such_property : meaning (codes "pget nothing") ≡ Faulty BadLine
  pub send : meaning (codes "send p/a@t") ≡ Asks (Send (Snapshot (record { file_system = codes "p/a"; component = codes "t" })) None)
  pub send_from_snapshot :
      meaning (codes "send -i p/a@s p/a@t")
      ≡ Asks (Send (Snapshot (record { file_system = codes "p/a"; component = codes "t" })) (Some (Snapshot (record { file_system = codes "p/a"; component = codes "s" }))))
  pub send_from_bookmark :
      meaning (codes "send -i p/a#b p/a@t")
      ≡ Asks (Send (Snapshot (record { file_system = codes "p/a"; component = codes "t" })) (Some (Bookmark (record { file_system = codes "p/a"; component = codes "b" }))))
  pub send_file_system : meaning (codes "send p/a") ≡ Asks (Send (FileSystem (codes "p/a")) None)
  pub send_of_two : meaning (codes "send p/a@s p/a@t") ≡ Faulty BadLine
  pub send_from_alone : meaning (codes "send -i p/a@s") ≡ Faulty BadLine
  pub send_from_last : meaning (codes "send p/a@t -i p/a@s") ≡ Faulty BadLine
  pub send_from_short : meaning (codes "send -i @s p/a@t") ≡ Faulty BadName
  pub receive :
      meaning (codes "receive p/b@s 5aF0")
      ≡ Asks (Receive (record { file_system = codes "p/b"; component = codes "s" }) (90 ∷ 240 ∷ []) Plain)
  pub receive_by_force :
      meaning (codes "receive -F p/b@s 00")
      ≡ Asks (Receive (record { file_system = codes "p/b"; component = codes "s" }) (0 ∷ []) Back)
  pub receive_odd_digits : meaning (codes "receive p/b@s 5aF") ≡ Faulty BadLine
  pub receive_no_digits : meaning (codes "receive p/b@s 5g") ≡ Faulty BadLine
  pub receive_alone : meaning (codes "receive p/b@s") ≡ Faulty BadLine
  pub receive_shape_first : meaning (codes "receive p/b 5aF") ≡ Faulty BadLine
  pub receive_file_system : meaning (codes "receive p/b 5a") ≡ Faulty BadName
  pub bad_name : meaning (codes "write p/ 0 0 61") ≡ Faulty BadName
  pub too_great : meaning (codes "write p/ 4294967296 0 61") ≡ Faulty BadLine
  pub leading_zero : meaning (codes "read p 00 0") ≡ Faulty BadLine
  pub odd_digits : meaning (codes "write p 0 0 616") ≡ Faulty BadLine
  pub two_spaces : meaning (codes "read  p 0 0") ≡ Faulty BadLine
  pub space_at_end : meaning (codes "get referenced p ") ≡ Faulty BadLine
  pub unknown : meaning (codes "frob p") ≡ Faulty BadLine
  pub done : line_of Done ≡ codes "ok" ++ 10 ∷ []
  pub group : line_of (Group 12) ≡ codes "12" ++ 10 ∷ []
  pub count : line_of (Count 20) ≡ codes "20" ++ 10 ∷ []
  pub opened : line_of (Opened 3 (record { map = finmap.empty; guid = 5; group = 7; sources = [] })) ≡ codes "3" ++ 10 ∷ []
  pub size : line_of (ValueIs (Size 1024)) ≡ codes "1024" ++ 10 ∷ []
  pub no_limit : line_of (ValueIs (Size 0)) ≡ codes "0" ++ 10 ∷ []
  pub no_names : line_of (Names []) ≡ codes "-" ++ 10 ∷ []
  pub names : line_of (Names (codes "p" ∷ codes "p/a" ∷ [])) ≡ codes "p p/a" ++ 10 ∷ []
  pub text : line_of (ValueIs (Named (codes "p/c,p/d"))) ≡ codes "p/c,p/d" ++ 10 ∷ []
  pub no_text : line_of (ValueIs (Named [])) ≡ codes "-" ++ 10 ∷ []
  pub on : line_of (ValueIs (Truth true)) ≡ codes "on" ++ 10 ∷ []
  pub off : line_of (ValueIs (Truth false)) ≡ codes "off" ++ 10 ∷ []
  pub stream : line_of (Stream (90 ∷ 240 ∷ 7 ∷ [])) ≡ codes "5af007" ++ 10 ∷ []
  pub refused : line_of (Refused NoDataset) ≡ codes "error 2 NoDataset" ++ 10 ∷ []

-- a number has one spelling, the one in which it is printed, whatever is the greatest (profile)
abbrev pub HasOneSpelling : Type 0
HasOneSpelling = (most : ℕ) (word : List ℕ) (n : ℕ) → most < 2 ^ 64 → n ≤ most → (number_up_to most word ≡ Some n) ↔ (word ≡ decimal n)
