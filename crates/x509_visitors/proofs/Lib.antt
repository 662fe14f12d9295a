mod Lifted
